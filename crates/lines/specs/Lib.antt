pub mod Lines
pub mod Forms
pub mod Reading
pub mod Promises
pub mod Inner
pub mod Facts
