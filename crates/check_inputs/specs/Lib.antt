-- The definitions of the check of inputs, as the code goes about it. Assumes nothing.
pub mod Inputs
