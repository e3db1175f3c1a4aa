-- Tables by computation, the last arm of a match, round trips of records and of a log's, what is read from bytes fits, records that are allowed, paths, equal paths and tags, calls within calls, and keys by pairs of bytes. Assumes nothing.
pub mod Computed
pub mod LastArm
pub mod Counts
pub mod Records
pub mod LogRecords
pub mod Fitting
pub mod Allowed
pub mod Paths
pub mod Equality
pub mod Calls
pub mod KeyPairs
