-- The laws of this crate, and its closed cases.
pub mod Words
pub mod Lent
pub mod Cases
