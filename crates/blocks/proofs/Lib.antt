pub mod Values
pub mod Stored
pub mod Identifiers
pub mod Symbols
