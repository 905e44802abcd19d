pub mod Turns
pub mod Stands
pub mod Faults
pub mod Exact
pub mod Editions
