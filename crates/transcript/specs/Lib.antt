-- The definitions of this crate, in a reader's order.
pub mod Transcript
pub mod Rows
pub mod SessionKept
