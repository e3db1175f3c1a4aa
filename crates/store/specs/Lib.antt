-- The definitions of the matching store. Assumes nothing.
pub mod Matching
