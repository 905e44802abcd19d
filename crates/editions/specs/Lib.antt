pub mod Frames
pub mod Reader
pub mod Meaning
pub mod Promises
