-- The laws of adding rows.
pub mod Adding
