-- The definitions of this crate, in a reader's order: what an answer is and what is read; what is done for a row; what
-- the answers count.
pub mod Question
pub mod Steps
pub mod Counted
