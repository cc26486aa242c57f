pub mod Settings
pub mod Rounds
pub mod Ciphers
pub mod Making
pub mod Bytes
