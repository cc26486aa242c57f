pub mod Layouts
pub mod Boxes
pub mod Kinds
