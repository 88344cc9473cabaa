pub mod Run
pub mod Judged
pub mod Claims
