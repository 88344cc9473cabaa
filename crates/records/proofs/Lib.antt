pub mod Steps
pub mod Judging
pub mod Claims
pub mod Taking
pub mod Pieces
