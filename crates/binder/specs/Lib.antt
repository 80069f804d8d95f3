pub use Rattle.definitions.specs.Binding.Faults
pub mod Meaning
pub mod Blocks
pub mod Clauses
