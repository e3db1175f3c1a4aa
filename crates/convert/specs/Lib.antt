-- The converter of R-8 of 02, and the rules before R-8. Assumes nothing.
pub mod Convert
pub mod Before
