pub mod Scans
pub mod Kernels
pub mod Promises
