-- The claims about range runs in bytes, proved. Assumes nothing.
pub mod Choices
