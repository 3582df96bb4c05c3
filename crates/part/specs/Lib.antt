pub mod Part
pub mod Held
