pub mod Slices
pub mod Kernels
pub mod Promises
