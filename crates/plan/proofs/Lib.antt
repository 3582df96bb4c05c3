-- The laws of homes and legal plans; the loops' invariants; the closed cases.
pub mod Homes
pub mod PlanLoops
pub mod Cases
