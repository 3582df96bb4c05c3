-- Closed cases, and the laws of this crate: records placed in a buffer; the records of a drawing, and of a store's
-- drawings; the call; what it says of the join.
pub mod Cases
pub mod Placing
pub mod Records
pub mod Stored
pub mod Calls
pub mod Joined
