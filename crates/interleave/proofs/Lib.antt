-- The modules of the proofs that belong to no one function.
pub mod Symbols
pub mod Places
pub mod Answers
pub mod Sending
pub mod Straight
pub mod Claims
