-- The definitions of inputs as handles. Assumes nothing.
pub mod Handles
