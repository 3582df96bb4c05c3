-- The laws of this crate, in a reader's order.
pub mod Shares
pub mod PartitionLaws
pub mod CountLoops
pub mod Space
pub mod Unaffected
