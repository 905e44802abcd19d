pub mod Guards
pub mod Writes
pub mod Froms
pub mod Promises
pub mod Once
