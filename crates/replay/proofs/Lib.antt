-- A replay from lent bytes, and the claims. Assumes nothing.
pub mod Accepting
pub mod Claims
