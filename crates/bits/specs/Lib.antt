pub mod Bits
pub mod Words
pub mod Orders
pub mod Listed
