-- The modules of the proofs that belong to no one function.
pub mod Bits
