pub mod Meaning
pub mod Layers
pub mod Supplied
pub mod Laws
pub mod Piles
