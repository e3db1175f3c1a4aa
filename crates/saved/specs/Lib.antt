-- The definitions of the check of a saved state. Assumes nothing.
pub mod Passes
