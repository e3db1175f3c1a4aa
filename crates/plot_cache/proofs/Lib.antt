-- Why what is kept serves. Assumes nothing.
pub mod SameLists
pub mod Served
