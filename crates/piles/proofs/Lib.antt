pub mod Ways
pub mod Stacking
