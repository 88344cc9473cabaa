pub mod Headers
pub mod Flows
pub mod Standing
pub mod Finding
pub mod Building
pub mod Congruent
