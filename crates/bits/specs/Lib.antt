pub mod Kernels
