-- The definitions of the start of a run. Assumes nothing.
pub mod Loaded
