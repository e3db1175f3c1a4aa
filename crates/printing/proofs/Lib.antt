-- That every text fits, that two orders print alike, and what the proofs of the functions cite. Assumes nothing.
pub mod Left
pub mod Room
pub mod SameBytes
