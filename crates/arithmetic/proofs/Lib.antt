-- The laws of the arithmetic operations, over numbers and over ranges. Assumes nothing.
pub mod Cases
pub mod Division
pub mod Corners
pub mod Order
pub mod Ranged
pub mod Rising
pub mod Equalities
pub mod Remainders
pub mod Ranges
pub mod Singles
pub mod RangeCases
pub mod Signed
pub mod Unique
