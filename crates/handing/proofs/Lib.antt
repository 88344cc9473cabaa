-- The modules of the proofs.
pub mod Texts
pub mod Copying
pub mod Giving
