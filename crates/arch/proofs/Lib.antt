pub mod Scans
pub mod Found
pub mod Counts
pub mod Regions
pub mod Promises
