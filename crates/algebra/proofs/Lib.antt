pub mod Readings
pub mod Counts
pub mod Promises
