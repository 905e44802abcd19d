pub mod Select
pub mod Kernels
pub mod Promises
