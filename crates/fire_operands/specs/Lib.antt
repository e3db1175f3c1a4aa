-- The definitions of the operands of a firing. Assumes nothing.
pub mod Operands
