-- The laws, by what they are about: tests and checks, members of a list, how often, sums over a table, one list made of
-- each, the numbers below another, the same members each as often; then parts of a list, copies, words, and records of
-- a fixed width.
pub mod Choice
pub mod Members
pub mod Tally
pub mod Tables
pub mod Front
pub mod Gather
pub mod Below
pub mod Same
pub mod Parts
pub mod Copies
pub mod Words
pub mod Records
