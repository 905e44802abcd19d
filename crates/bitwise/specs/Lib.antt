pub mod Bitwise
pub mod Promises
