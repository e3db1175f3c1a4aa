-- The laws of a run over bytes. Assumes nothing.
pub mod Choosing
pub mod Places
pub mod Turning
pub mod Recording
pub mod Keeping
pub mod Looping
pub mod Bounding
pub mod Accepting
pub mod Resuming
