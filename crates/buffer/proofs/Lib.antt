-- What holds of records of one width. Assumes nothing.
pub mod Tables
