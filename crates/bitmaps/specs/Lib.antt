pub mod Bitmaps
pub mod Promises
