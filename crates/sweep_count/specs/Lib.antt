-- The definitions of this crate, in a reader's order.
pub mod Pairs
pub mod Partition
pub mod Size
pub mod Space
pub mod Required
