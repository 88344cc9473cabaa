pub mod Moving
pub mod Showing
pub mod Placing
pub mod Joining
