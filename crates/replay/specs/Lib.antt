-- What is claimed of logs. Assumes nothing.
pub mod Claims
