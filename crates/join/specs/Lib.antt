-- The definitions of this crate, in a reader's order.
pub mod Opening
pub mod Changes
pub mod Sweeps
pub mod Repartitioning
