pub mod Gaps
pub mod Kernels
pub mod Promises
