-- Records equal in all words; runs and their records; a partition laid down; the loops of `compact` and `split`; closed
-- cases.
pub mod Words
pub mod Runs
pub mod Placing
pub mod Compacting
pub mod Splitting
pub mod Cases
