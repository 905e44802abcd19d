pub mod Combine
pub mod Promises
