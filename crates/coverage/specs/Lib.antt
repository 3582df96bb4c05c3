-- The definitions of this crate, in a reader's order: covered minutes and gaps; what gaps are, said without a list; the
-- next covered stretch.
pub mod Gaps
pub mod Longest
pub mod NextCovered
