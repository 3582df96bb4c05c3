-- The laws of this crate: the order of rows; sorting a lane, and all lanes; the pieces of the text; the text's length;
-- what store and text are determined by; the checks and answers of `write`; the closed cases.
pub mod Orders
pub mod Arranging
pub mod Partitions
pub mod Pieces
pub mod Bounds
pub mod Determined
pub mod Reports
pub mod Cases
