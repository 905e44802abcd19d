pub mod Tables
pub mod Scans
pub mod Fronts
pub mod Promises
