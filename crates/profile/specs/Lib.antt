-- The definitions of the steps of a profile, and that it ends as every run does. Assumes nothing.
pub mod Steps
pub mod EndsAsRun
