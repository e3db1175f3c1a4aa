-- The definitions of how a run, a profile and a replay begin, and of what each leaves at its end. Assumes nothing.
pub mod Begun
pub mod Ended
