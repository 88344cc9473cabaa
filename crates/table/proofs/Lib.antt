pub mod Offsets
pub mod Rows
pub mod Zero
pub mod Holding
pub mod Flags
pub mod Marking
