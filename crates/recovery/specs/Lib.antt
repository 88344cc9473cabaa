pub mod Block
pub mod Model
pub mod Sent
