-- The definitions of the enabled activities. Assumes nothing.
pub mod Enabled
pub mod Store
