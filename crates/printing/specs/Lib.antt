-- What the printing program prints, and what is stated of it. Assumes nothing.
pub mod PrintedRun
pub mod SameBytes
