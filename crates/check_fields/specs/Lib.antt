-- The definitions of the sites met so far. Assumes nothing.
pub mod Sites
