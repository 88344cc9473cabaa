-- The modules of the proofs that belong to no one function.
pub mod Points
pub mod Roots
pub mod Factor
pub mod Terms
pub mod Standard
pub mod Neighbours
pub mod Filling
