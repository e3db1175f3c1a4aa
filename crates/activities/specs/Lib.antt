-- The activities of a saved state that are enabled, and those of them that a bound holds back: what `count` promises, and what is claimed of it. Assumes nothing.
pub mod Counts
pub mod Ready
pub mod Hangs
