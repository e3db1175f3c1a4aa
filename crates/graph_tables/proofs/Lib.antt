-- What holds of the entries of the tables. Assumes nothing.
pub mod Entries
pub mod Named
