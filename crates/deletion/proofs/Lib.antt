-- The laws of delete.
pub mod Deleting
pub mod Shrinking
