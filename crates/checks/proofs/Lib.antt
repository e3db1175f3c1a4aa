-- What follows for a run from a check that passed, and checks in their order. Assumes nothing.
pub mod Passed
pub mod InOrder
