-- The laws of this crate: cutting an input; what is kept of a line; what is left of a part, and the loop over it; the
-- checks of `take`; the end of the input; closed cases.
pub mod Cuts
pub mod Keeping
pub mod Parts
pub mod Loop
pub mod Takes
pub mod Finishes
pub mod Cases
