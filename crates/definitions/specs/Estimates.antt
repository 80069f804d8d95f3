-- What the optimiser takes a block to cost: the share of rows that each conjunct of WHERE leaves, the rows of joins,
-- the paths of tables and their costs. They fill in the space in which Plans looks for a least plan. (Selinger et al.
-- 1979, sections 4 and 5; the numbers are own.) To be read in this order.
pub mod BlockTables
pub mod Fractions
pub mod Sides
pub mod KeyRanges
pub mod Selectivity
pub mod PlanConjuncts
pub mod Cardinality
pub mod Version
pub mod Orders
pub mod Paths
pub mod PathCost
pub mod BlockSpace
pub mod Laws
