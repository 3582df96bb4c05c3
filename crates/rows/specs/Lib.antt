-- The definitions of this crate, in a reader's order.
pub mod Join
pub mod Durable
pub mod Sites
pub mod Partners
