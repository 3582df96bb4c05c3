-- The proof: lines get the numbers of the definitions; what is written is the text, the theorem and what follows from
-- it; closed cases of the definitions.
pub mod Agreeing
pub mod Streams
pub mod Cases
