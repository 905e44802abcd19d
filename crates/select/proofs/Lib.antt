pub mod Digits
pub mod Counted
pub mod Before
pub mod Table
pub mod Present
pub mod Promises
