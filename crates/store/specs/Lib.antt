pub mod Store
pub mod Sides
