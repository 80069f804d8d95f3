-- What a SELECT means, on bound blocks. To be read in this order.
pub mod BoundBlock
pub mod Evaluation
pub mod CanRaise
pub mod Conjuncts
pub mod Combinations
pub mod Grouping
pub mod Answer
pub mod Outcomes
pub mod Telling
pub mod BoundTypes
pub mod Laws
