-- The plan with new cuts; one store moved, over the kind of its records; then tuples and rows; checks 9 and 10; closed
-- cases.
pub mod Recuts
pub mod Moving
pub mod TuplesAndRows
pub mod Numbers
pub mod Cases
