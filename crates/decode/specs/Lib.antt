pub mod Asks
pub mod Kernels
pub mod Promises
