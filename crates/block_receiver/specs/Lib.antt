pub mod Reading
pub mod Model
pub mod Promises
pub mod Layout
pub mod Inner
pub mod Facts
