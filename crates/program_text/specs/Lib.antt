-- The definitions of this crate, in a reader's order.
pub mod Text
pub mod Streamed
