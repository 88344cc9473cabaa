-- The modules of the proofs.
pub mod Tests
pub mod Unseen
pub mod Chaining
pub mod Agreeing
pub mod Settling
pub mod Packing
pub mod Handing
