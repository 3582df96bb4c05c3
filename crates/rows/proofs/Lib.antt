-- The laws of the row rule and the join; then those of counting; the theorems of the durable join.
pub mod Joins
pub mod JoinsStored
pub mod Counting
pub mod Durable
