pub mod Window
pub mod Inner
pub mod Promises
pub mod Facts
