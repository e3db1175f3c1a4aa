-- The laws of the flags of the enabled activities. Assumes nothing.
pub mod Back
pub mod Blocks
pub mod Digits
pub mod Laws
pub mod Marks
pub mod Words
pub mod Minus
