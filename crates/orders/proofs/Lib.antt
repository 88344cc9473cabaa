-- The modules of the proofs.
pub mod Windows
pub mod Shown
pub mod SamePackets
pub mod Orders
