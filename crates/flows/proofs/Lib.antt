pub mod Flows
pub mod Cutting
pub mod Ciphers
