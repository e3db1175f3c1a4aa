-- The operands of a firing, in the terms of the machine, and the operand at the place of a tag. Assumes nothing.
pub mod Earliest
pub mod AsMachine
