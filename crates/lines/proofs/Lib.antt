-- The modules of the proofs that belong to no one function.
pub mod Options
pub mod Texts
pub mod Numbers
pub mod Digits
pub mod Breaks
pub mod Decimals
pub mod Hexadecimals
pub mod Promises
pub mod Answers
