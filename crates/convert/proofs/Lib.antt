-- Records made wider, and that a run is what it was before R-8. Assumes nothing.
pub mod Records
pub mod Stricter
pub mod Fired
pub mod Before
