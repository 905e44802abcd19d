pub mod Flips
pub mod Moves
pub mod Toggles
pub mod Sizes
pub mod Splits
