pub mod Walks
pub mod Kernels
pub mod Promises
