pub mod Padding
pub mod Asking
pub mod Kept
pub mod Accepted
pub mod Runs
