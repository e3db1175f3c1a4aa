-- The laws of inputs as handles. Assumes nothing.
pub mod Rows
pub mod First
