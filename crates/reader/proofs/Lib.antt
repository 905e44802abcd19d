pub mod Turns
pub mod Padding
pub mod Records
pub mod Readings
pub mod Courses
