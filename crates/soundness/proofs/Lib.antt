-- The tests of words; the loops of check 5.
pub mod Zeros
pub mod Loops
