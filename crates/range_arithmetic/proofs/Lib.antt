-- The laws of the arithmetic over ranges. Assumes nothing.
pub mod InBits
