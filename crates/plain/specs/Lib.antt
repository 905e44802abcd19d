pub mod Writer
pub mod Plain
pub mod Promises
