-- The definitions of this crate, in a reader's order: the call; what it says of the join; the steps of the writing.
pub mod Listed
pub mod Joined
pub mod Placing
