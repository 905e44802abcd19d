pub mod Algebra
pub mod Promises
