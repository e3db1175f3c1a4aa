-- 01, "Graph records", "Tokens and tags", and of "Firing" the cells and the tags of calls; and the records of 02's logs, expressions and named arrays. Assumes nothing.
pub mod Widths
pub mod Paths
pub mod GraphRecords
pub mod TokensAndTags
pub mod KeyPairs
pub mod Calls
pub mod Cells
pub mod Codecs
pub mod ReadBack
pub mod Logs
pub mod Arrays
pub mod ExpressionRecords
