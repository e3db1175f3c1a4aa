-- What the crates over the table of ranges share. Assumes nothing.
pub mod Bytes
