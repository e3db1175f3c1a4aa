-- The definitions: words as bytes, the printed text, a decimal number read back, what bounds the length, and what the contracts of private functions cite.
-- Assumes nothing.
pub mod Words
pub mod Text
pub mod Same
pub mod Read
pub mod Room
pub mod Lines
