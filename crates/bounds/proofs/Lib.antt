-- The laws of the bounds, and of the ledger that a run takes. Assumes nothing.
pub mod Ports
pub mod Rounds
pub mod Small
pub mod Runs
pub mod Capacity
pub mod Logged
