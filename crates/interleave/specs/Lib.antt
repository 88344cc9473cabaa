pub mod Places
pub mod Grid
pub mod Inner
pub mod Promises
pub mod Claims
pub mod Facts
