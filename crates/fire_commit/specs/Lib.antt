-- The definitions of whether outputs can go into the ledger, and of what comes of an action and its outputs. Assumes nothing.
pub mod Admitted
pub mod Commit
