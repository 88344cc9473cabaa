pub mod Records
pub mod Replay
pub mod Claims
pub mod Standing
pub mod Taking
pub mod Promises
pub mod Pieces
pub mod Facts
