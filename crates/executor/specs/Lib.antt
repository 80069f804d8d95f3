pub use Rattle.definitions.specs.Queries.Answer
pub use Rattle.definitions_execution.specs.Total
pub use Rattle.definitions.specs.Certificates.Explaining
pub mod ReadyBlocks
pub mod SortedColumns
pub mod RunningPlans
pub mod Taking
