-- The definitions of the flags of the enabled activities. Assumes nothing.
pub mod Flags
pub mod Marks
