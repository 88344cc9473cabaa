-- The modules of the proofs.
pub mod Running
pub mod Adding
pub mod Judging
pub mod Choice
pub mod Runs
pub mod Claims
