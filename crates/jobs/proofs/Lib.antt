pub mod Squeezed
pub mod Faults
pub mod Wording
pub mod Operands
pub mod Reading
pub mod Rowing
pub mod Heading
pub mod OfFiles
