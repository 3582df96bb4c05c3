-- The laws of one partition; the loops' invariants; the closed cases.
pub mod Parts
pub mod Loops
pub mod PartCases
