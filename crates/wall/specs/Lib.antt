-- The definitions of this crate: what the system calls moved, and the line that tells a failure; what the loop keeps.
pub mod Channel
pub mod Run
