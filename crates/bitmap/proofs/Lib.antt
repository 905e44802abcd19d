pub mod Singles
pub mod Tidies
pub mod Many
pub mod Regions
pub mod Fields
