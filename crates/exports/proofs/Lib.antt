-- The laws of this crate.
mod Exporting
