pub mod Digits
pub mod Named
pub mod FromZeros
