pub mod Refusal
pub mod Asking
pub mod Expanding
pub mod Ordering
