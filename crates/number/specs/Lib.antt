-- Numbers in bytes. Assumes nothing.
pub mod Number
