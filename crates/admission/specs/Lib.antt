pub mod Joining
pub mod Steps
pub mod RepairSteps
pub mod SourceSteps
pub mod Reading
