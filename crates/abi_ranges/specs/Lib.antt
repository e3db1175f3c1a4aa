-- What range runs promise of plain runs and of each other, in bytes. Assumes nothing.
pub mod Choices
