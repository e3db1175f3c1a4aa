-- The laws of what an instruction asks for. Assumes nothing.
pub mod Does
pub mod Passed
pub mod Arrives
pub mod Parted
