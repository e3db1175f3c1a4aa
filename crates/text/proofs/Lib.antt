-- The lemmas, and the laws of the printed text: Laws and Examples are for a reader and for crates above. Assumes nothing.
pub mod Decimals
pub mod Paths
pub mod Lines
pub mod Whole
pub mod Fields
pub mod TokenFields
pub mod Loosely
pub mod Room
pub mod Laws
pub mod Examples
