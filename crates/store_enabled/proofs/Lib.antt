-- The laws of the enabled activities. Assumes nothing.
pub mod Places
pub mod Right
pub mod Bytes
pub mod Single
pub mod Stored
pub mod Arriving
pub mod Spending
