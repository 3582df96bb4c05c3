-- The laws of this crate: lane lines and `least` lines, the sessions that they make and their plans, the words in use
-- of one store, and the closed cases.
pub mod Lanes
pub mod Plans
pub mod Words
pub mod Cases
