pub mod Shifts
pub mod Steps
pub mod Promises
