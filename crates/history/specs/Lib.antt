-- The definitions of this crate, in a reader's order.
pub mod Machine
pub mod Runs
pub mod KeptCurrent
pub mod Answering
