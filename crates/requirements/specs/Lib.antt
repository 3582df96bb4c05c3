-- The definitions of this crate, in a reader's order: the call; what it says of a sweep.
pub mod Requirements
pub mod Foreseen
