-- The proofs of whether outputs can go into the ledger, and of what comes of an action and its outputs. Assumes nothing.
pub mod Slots
pub mod Admitting
pub mod AsMachine
pub mod Laws
