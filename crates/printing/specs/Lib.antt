pub mod Printed
pub mod Inner
pub mod Facts
