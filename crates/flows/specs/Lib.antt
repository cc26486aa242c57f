pub mod Strings
pub mod Flows
pub mod Keys
pub mod Published
pub mod Steps
pub mod Marked
