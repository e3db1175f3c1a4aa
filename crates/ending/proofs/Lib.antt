-- The laws of how a run ends. Assumes nothing.
pub mod Laws
