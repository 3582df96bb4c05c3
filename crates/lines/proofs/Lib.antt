-- The laws of this crate, in a reader's order, and the closed cases.
pub mod Fields
pub mod Numbers
pub mod Answers
pub mod Forms
pub mod Loops
pub mod Printed
pub mod Cases
