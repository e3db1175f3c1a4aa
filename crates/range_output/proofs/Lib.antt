-- The laws of what a range run leaves. Assumes nothing.
pub mod Written
