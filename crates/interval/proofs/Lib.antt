-- The laws of this crate's definitions, in a reader's order, and the closed cases.
pub mod Overlap
pub mod Tuples
pub mod Cases
