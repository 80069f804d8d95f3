-- Worked examples of estimates: the statistics of small blocks, and the plans that are least by them.
pub mod Setups
pub mod Paths
pub mod Shares
pub mod TwoColumns
pub mod Orders
pub mod Joins
pub mod Products
