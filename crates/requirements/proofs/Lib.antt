-- Closed cases of the definitions, the laws of the call, and what it says of a sweep.
pub mod Cases
pub mod Calls
pub mod Foreseen
