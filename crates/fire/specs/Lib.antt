-- The definitions of what holds between firings, and of what an operation is to one. Assumes nothing.
pub mod Running
pub mod Operating
pub mod Plain
