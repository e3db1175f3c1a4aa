-- The definitions of a firing over handles, and that its operation is one for a firing. Assumes nothing.
pub mod Tried
pub mod Ranges
