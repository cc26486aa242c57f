pub mod Bytes
pub mod Sure
pub mod Scheduling
pub mod Placing
