-- The definitions of this crate.
pub mod Label
pub mod Weights
