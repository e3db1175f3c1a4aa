-- What the engine promises, and the definitions of the turns of a run and of a run that goes on from a saved state. Assumes nothing.
pub mod Promise
pub mod Turns
pub mod Keeping
pub mod Resumed
