-- The proof that the answers count the machine's rows.
pub mod Answers
