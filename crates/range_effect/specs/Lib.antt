-- The definitions of the operation over handles. Assumes nothing.
pub mod Asked
