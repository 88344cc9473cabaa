pub mod Ways
pub mod Cutting
