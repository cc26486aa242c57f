pub mod Columnwise
pub mod Letters
pub mod Marks
pub mod Done
pub mod Running
pub mod Promised
