-- The laws of what crosses to Rust and C. Assumes nothing.
pub mod Laws
pub mod Runs
pub mod Named
pub mod Back
pub mod Serving
