-- The laws of a profile over bytes. Assumes nothing.
pub mod Places
pub mod Stepping
pub mod Looping
pub mod Accepting
pub mod EndsAsRun
