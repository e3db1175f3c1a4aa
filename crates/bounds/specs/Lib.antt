-- What the bounds of 02, R-3 are worked out with, and what they and R-12 say of runs. Assumes nothing.
pub mod Reach
pub mod Runs
pub mod Capacity
pub mod Logged
