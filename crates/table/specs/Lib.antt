pub mod Window
pub mod Packet
pub mod RowSteps
