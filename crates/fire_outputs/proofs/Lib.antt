-- The proofs of what a firing writes. Assumes nothing.
pub mod Laws
pub mod AsMachine
pub mod Spent
