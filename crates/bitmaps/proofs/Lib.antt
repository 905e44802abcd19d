pub mod Cases
pub mod Contained
pub mod Promises
pub mod Once
