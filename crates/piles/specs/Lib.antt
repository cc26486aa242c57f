pub mod Trees
pub mod Stacking
pub mod Errors
