pub mod Pairs
pub mod Promises
