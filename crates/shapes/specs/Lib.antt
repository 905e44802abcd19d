pub mod Shapes
pub mod Promises
