-- The laws of this crate: what the call answers; loops over a lent list of questions; what a sound rows store answers.
pub mod Called
pub mod Loops
pub mod Sound
