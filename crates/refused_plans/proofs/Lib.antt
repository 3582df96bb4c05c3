-- The proof that every call refuses a plan that is not legal by the plan's own number.
pub mod Refused
