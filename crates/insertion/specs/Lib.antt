-- The definitions of this crate, in a reader's order.
pub mod Changes
pub mod Inserts
