-- The definitions of records as tokens and cells of the machine. Assumes nothing.
pub mod States
pub mod Tables
