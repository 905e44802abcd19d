pub mod Cases
pub mod Promises
pub mod Halves
pub mod Once
