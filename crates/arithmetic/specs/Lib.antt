-- The definitions of the arithmetic operations, over numbers and over ranges, and what is stated of quotient and remainder. Assumes nothing.
pub mod Arithmetic
pub mod Division
pub mod Ranges
