-- The laws of this crate, in a reader's order: closed cases of the definitions; questions and words; what passed checks
-- say; the loops' invariants, over the questions and over the rows of a scan; the call.
pub mod Cases
pub mod Words
pub mod Passed
pub mod Loops
pub mod Scans
pub mod Calls
