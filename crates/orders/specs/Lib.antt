pub mod Orders
pub mod Facts
