-- The proof: what every line keeps; the numbers that lines get; the report, that it is not refused and what it prints;
-- the theorem; closed cases of the definitions.
pub mod Holding
pub mod Numbers
pub mod Reported
pub mod Sorting
pub mod Printing
pub mod Sessions
pub mod Cases
