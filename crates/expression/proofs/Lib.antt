-- The laws of going through an expression. Assumes nothing.
pub mod Terms
pub mod Marks
pub mod Counts
pub mod Puts
pub mod Values
pub mod Runs
