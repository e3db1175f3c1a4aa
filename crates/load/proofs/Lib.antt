-- The laws of an accepted run's start. Assumes nothing.
pub mod Laws
pub mod Taken
