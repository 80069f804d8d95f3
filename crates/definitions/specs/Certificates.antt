-- The texts of plans and their certificates: how they are spelled, what can be wrong with one, what a checker tells of
-- them, and what EXPLAIN prints. To be read in this order.
pub mod CertifiedBlock
pub mod Text
pub mod Form
pub mod Spelling
pub mod Fault
pub mod File
pub mod Verdicts
pub mod Explaining
pub mod Writing
pub mod Laws
