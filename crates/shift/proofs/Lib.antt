pub mod Steps
pub mod Moves
pub mod Turns
pub mod Calls
pub mod Guards
