pub mod Answers
pub mod Draws
pub mod Promises
pub mod Layout
