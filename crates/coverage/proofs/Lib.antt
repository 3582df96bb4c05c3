-- Closed cases, and the laws of this crate: gaps, from a minute on; what the gaps of a tuple are; the next covered
-- stretch, and what it says of the minutes.
pub mod Cases
pub mod Stretches
pub mod Lengths
pub mod Longest
pub mod Few
pub mod NextCovered
pub mod Nearest
