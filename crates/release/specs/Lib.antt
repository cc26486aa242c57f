pub mod Opening
pub mod Coder
pub mod Views
pub mod Calls
pub mod Handed
pub mod Listed
pub mod Promises
pub mod Shown
