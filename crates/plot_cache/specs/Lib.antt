-- When what is kept of a run serves for another, and what is promised then. Assumes nothing.
pub mod Serves
