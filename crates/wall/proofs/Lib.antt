-- The laws of this crate: the line of a failure.
pub mod Failures
