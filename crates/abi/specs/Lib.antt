-- The definitions of what crosses to Rust and C. Assumes nothing.
pub mod Numbers
pub mod Back
