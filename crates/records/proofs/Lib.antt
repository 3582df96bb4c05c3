-- Records moved within a part, and words cleared: their laws and the loops' invariants.
pub mod Movers
pub mod Clearing
