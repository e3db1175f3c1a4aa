-- The laws of records as tokens and cells of the machine. Assumes nothing.
pub mod Arities
pub mod Keys
pub mod Enabled
