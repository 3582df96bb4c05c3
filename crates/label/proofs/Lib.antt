-- The laws of this crate's definitions, in a reader's order, and the closed cases.
pub mod Labels
pub mod Fields
pub mod Weights
pub mod Loops
pub mod Cases
