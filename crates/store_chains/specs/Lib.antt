-- The definitions of chains of tokens. Assumes nothing.
pub mod Search
pub mod Chains
pub mod Slots
pub mod Deferred
pub mod Partners
