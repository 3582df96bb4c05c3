pub mod Answer
pub mod Stores
