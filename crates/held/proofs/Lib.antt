-- The laws of the flags of held activities. Assumes nothing.
pub mod Standing
pub mod Searching
pub mod Laws
pub mod Deciding
pub mod Following
pub mod Quiet
pub mod Free
pub mod Fired
