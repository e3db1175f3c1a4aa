-- What holds of numbers in bytes, and of 32 bits in two's complement. Assumes nothing.
pub mod TwosComplement
pub mod Numbers
