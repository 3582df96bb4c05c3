pub mod Rehoming
