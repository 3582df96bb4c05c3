-- The definitions of this crate, in a reader's order.
pub mod Input
pub mod Taking
pub mod Finishing
