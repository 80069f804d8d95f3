pub use Rattle.definitions.specs.Plans.Checking
pub use Rattle.plan_space.specs.Planned
pub mod Handing
pub mod Compared
pub mod Comparisons
pub mod Checks
pub mod Verdicts
