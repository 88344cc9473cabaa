pub mod Keeping
pub mod Answering
pub mod Openings
