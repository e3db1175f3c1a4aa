-- The laws of a firing over handles. Assumes nothing.
pub mod Tried
