pub mod Buckets
pub mod Sorted
