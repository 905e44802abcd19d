pub mod Lasts
pub mod Firsts
pub mod Scans
pub mod Promises
