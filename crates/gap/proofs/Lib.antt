pub mod Tops
pub mod Tails
pub mod Opens
pub mod Closes
pub mod Calls
pub mod Promises
pub mod Once
