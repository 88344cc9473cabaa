pub mod Checking
pub mod Taking
pub mod Finding
pub mod Opening
pub mod Receiving
