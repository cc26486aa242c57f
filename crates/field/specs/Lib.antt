pub mod Polynomials
pub mod Fields
pub mod Widths
pub mod Code
