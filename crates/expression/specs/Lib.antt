-- What is kept on the way through an expression (02, R-14), and what its graph says of runs. Assumes nothing.
pub mod Tables
pub mod Runs
