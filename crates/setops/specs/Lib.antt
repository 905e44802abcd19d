pub mod Setops
pub mod Promises
