-- The laws of a range run. Assumes nothing.
pub mod Handles
pub mod Telling
pub mod Writing
