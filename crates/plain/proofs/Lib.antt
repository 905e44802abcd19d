pub mod Laid
pub mod Sheets
pub mod Requests
pub mod Grown
pub mod Written
pub mod Begun
pub mod Writings
