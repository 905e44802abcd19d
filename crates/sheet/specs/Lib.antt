pub mod Bytes
pub mod Layout
pub mod Kinds
pub mod Paper
pub mod Reads
pub mod Promises
