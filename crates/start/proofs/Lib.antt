-- What holds when a run begins, and what it leaves in every byte when it ends. Assumes nothing.
pub mod Starting
pub mod Ending
