pub mod Fields
pub mod Stricts
pub mod Equals
pub mod Promises
pub mod Once
