pub mod Pieces
pub mod Promises
pub mod Swaps
