pub mod Styles
pub mod Promises
