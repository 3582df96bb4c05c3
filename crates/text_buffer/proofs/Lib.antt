-- The laws of this crate: text put piece by piece; decimal digits.
pub mod Writing
pub mod Digits
