-- What the laws of this crate are about, in a reader's order.
pub mod Choice
pub mod Members
pub mod Same
pub mod Words
