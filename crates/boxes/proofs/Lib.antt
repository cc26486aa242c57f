pub mod Table
pub mod Layouts
pub mod Layers
pub mod Sent
pub mod Rows
