-- The definitions of the flags of held activities. Assumes nothing.
pub mod Searching
pub mod Deciding
