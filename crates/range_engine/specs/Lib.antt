-- What a range run promises, and the definitions of a range run over handles. Assumes nothing.
pub mod Promise
pub mod Over
