pub mod Adu
pub mod Starts
pub mod Settled
pub mod Facts
