-- The definitions of how a run ends. Assumes nothing.
pub mod Endings
