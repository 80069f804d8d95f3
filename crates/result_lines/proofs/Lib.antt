mod Inserted
mod Ordering
pub mod Bounded
mod Fields
pub mod Answering
pub mod Lists
mod Columns
pub mod Faults
pub mod Batches
mod UnitLines
pub mod Repeats
