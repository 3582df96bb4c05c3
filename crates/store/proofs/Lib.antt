-- The laws of whole stores; the loops over their partitions; the closed cases.
pub mod Stores
pub mod StoreLoops
pub mod StoreCases
