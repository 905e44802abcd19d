pub mod Tellings
pub mod Promises
