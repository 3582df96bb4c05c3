-- The laws of each call; what follows from a repartition's record; closed cases of its number.
pub mod OpenCall
pub mod ChangeCalls
pub mod SweepCall
pub mod Repartitioning
pub mod Moves
pub mod RepartitionCases
