pub mod Chains
pub mod Made
