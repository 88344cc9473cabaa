-- The modules of the proofs.
pub mod Filling
pub mod Hearing
