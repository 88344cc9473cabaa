pub mod Marks
pub mod Promises
pub mod MarkSteps
