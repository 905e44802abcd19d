pub mod Combine
pub mod Promises
pub mod Once
