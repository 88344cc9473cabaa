pub mod Promises
pub mod HandSteps
