-- The laws of a change of either kind; then those of insert.
pub mod Sites
pub mod Outcomes
pub mod Inserting
pub mod Growing
