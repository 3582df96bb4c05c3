-- The definitions of this crate, in a reader's order.
pub mod Time
pub mod Tuple
