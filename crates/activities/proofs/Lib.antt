-- Why the counts are right, and which hang they tell. Assumes nothing.
pub mod Counting
pub mod Hangs
