pub mod State
pub mod Calls
pub mod Promises
pub mod Inner
pub mod Facts
