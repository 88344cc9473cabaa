pub mod Block
pub mod Identifiers
pub mod Stored
