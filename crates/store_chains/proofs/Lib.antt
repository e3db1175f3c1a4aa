-- The laws of chains of tokens. Assumes nothing.
pub mod Search
pub mod Parts
pub mod Walks
pub mod Chains
pub mod Index
pub mod Deferred
pub mod Partners
pub mod Entering
