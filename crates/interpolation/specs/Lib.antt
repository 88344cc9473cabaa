pub mod Polynomial
pub mod Lagrange
pub mod Code
pub mod Facts
