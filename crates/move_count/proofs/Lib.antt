-- Records counted at their homes: the cuts listed and bisected, and the loops that count.
pub mod Listing
pub mod Bisecting
pub mod Counting
pub mod Verdict
