pub mod Gather
pub mod GatherSteps
