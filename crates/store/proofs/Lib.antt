-- The laws of the matching store. Assumes nothing.
pub mod Laws
pub mod Writing
pub mod Changes
