pub mod Showing
pub mod Placing
pub mod Opening
pub mod Receiving
pub mod Drawing
pub mod SourceCall
pub mod RepairCall
pub mod Giving
