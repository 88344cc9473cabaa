-- The modules of the proofs.
pub mod Counts
pub mod Bytewise
pub mod Recovery
pub mod Tracking
pub mod Sending
