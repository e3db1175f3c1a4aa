-- The laws of the operation over handles. Assumes nothing.
pub mod Laws
