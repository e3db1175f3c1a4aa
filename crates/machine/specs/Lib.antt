-- The definitions that a reader must believe: the machine, what is stated of its orders and of its firing sequences, the runs by
-- ideal steps, the replay of a log, another instruction set, runs in parts, runs by any chooser, runs with activities held back, runs
-- over related values, and runs over handles. What no promise names is stated in proofs/, where it is proved. Assumes nothing.
pub mod Machine
pub mod Orders
pub mod Sequences
pub mod Steps
pub mod Replay
pub mod Agreement
pub mod Saved
pub mod Choosers
pub mod Bounded
pub mod InStep
pub mod Handles
