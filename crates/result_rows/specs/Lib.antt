pub mod ResultRows
pub mod Stores
