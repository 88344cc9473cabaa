-- The modules of the proofs.
pub mod Only
pub mod Marking
pub mod Passing
pub mod Gaining
pub mod Choosing
