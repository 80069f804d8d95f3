pub use Rattle.definitions.specs.Queries.BoundBlock
pub mod Bound
pub mod Walks
