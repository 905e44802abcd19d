pub mod Promises
pub mod Numbers
pub mod Payloads
pub mod Lengths
