-- The laws of this crate: the length of refusals, and refusals one after the other; closed cases.
pub mod Refusals
pub mod Cases
