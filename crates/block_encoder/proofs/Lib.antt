pub mod Promising
pub mod Encoding
pub mod Taking
