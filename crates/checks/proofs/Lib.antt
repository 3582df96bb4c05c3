-- Going down the checks.
pub mod Checks
pub mod Refusals
