-- The proof of demand 3: what a store holds, what every call keeps, each call, every list of calls. Then what a change
-- is answered, and closed cases of the definitions.
pub mod Held
pub mod Kept
pub mod Changes
pub mod Lacking
pub mod Inserts
pub mod Deletes
pub mod Sweeps
pub mod Repartitions
pub mod Current
pub mod Answered
pub mod TenCases
pub mod AnswerCases
