pub mod Refusals
pub mod Stores
pub mod Kernels
pub mod Guards
pub mod Promises
