pub mod Cursors
pub mod Founds
pub mod Readers
