-- Closed cases of the definitions; the window of a list of questions, the rows of a sound store, what the scan for the
-- questions reads and answers; room in the answers and the loop over the rows; what the answers count.
pub mod Cases
pub mod Windows
pub mod Lanes
pub mod Answers
pub mod Rooms
pub mod Turns
pub mod Counted
