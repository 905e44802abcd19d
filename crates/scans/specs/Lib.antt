pub mod Searches
pub mod Promises
