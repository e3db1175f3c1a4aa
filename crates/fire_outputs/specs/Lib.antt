-- The definitions of what a firing writes. Assumes nothing.
pub mod Outputs
