pub mod Promises
pub mod Facts
