-- The laws of the check of a saved state. Assumes nothing.
pub mod Pairs
pub mod Exactly
pub mod Laws
pub mod Together
pub mod Taking
