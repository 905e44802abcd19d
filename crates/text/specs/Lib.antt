pub mod Lists
pub mod Grammar
pub mod Faults
pub mod Plain
pub mod Readings
pub mod Kernels
pub mod Promises
