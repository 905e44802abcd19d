pub mod Sets
pub mod Places
pub mod Words
pub mod Promises
