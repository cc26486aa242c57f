pub mod Coding
pub mod Through
