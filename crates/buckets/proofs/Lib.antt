pub mod Filling
pub mod Sorting
