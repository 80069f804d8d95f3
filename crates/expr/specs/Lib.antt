pub use Rattle.definitions.specs.Queries.Evaluation
pub use Rattle.definitions.specs.Queries.CanRaise
pub mod Answers
pub mod Sizes
pub mod Shorts
pub mod Vectors
pub mod RowTruths
