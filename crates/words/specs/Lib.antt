pub mod Options
pub mod Words
