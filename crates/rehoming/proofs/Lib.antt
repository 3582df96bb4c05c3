-- What is proved of moving one store's records to the partitions of another plan, in a reader's order.
pub mod Halves
pub mod Most
pub mod Ready
pub mod Laying
pub mod Joining
