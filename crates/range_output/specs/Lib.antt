-- The definitions of what a range run leaves. Assumes nothing.
pub mod Left
