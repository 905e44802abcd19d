pub mod Register
pub mod Kernels
pub mod Pages
pub mod Promises
