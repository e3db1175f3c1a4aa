-- The definitions of what an instruction asks for. Assumes nothing.
pub mod Effects
