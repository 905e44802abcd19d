pub mod Texts
pub mod Kernels
pub mod Forms
pub mod Plain
pub mod Promises
pub mod Held
