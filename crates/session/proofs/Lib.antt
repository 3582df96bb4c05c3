-- The laws of this crate: the words in use, a step's answer. Then those for a reader: the sessions that steps reach,
-- the stores' lengths, the numbers that such sessions meet, a store that is too short; and closed cases.
pub mod Walls
pub mod Steps
pub mod Reached
pub mod Lengths
pub mod Numbers
pub mod Short
pub mod Cases
