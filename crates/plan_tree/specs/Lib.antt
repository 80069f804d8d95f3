pub use Rattle.definitions.specs.Plans.TableSet
pub use Rattle.definitions.specs.Plans.Plan
pub use Rattle.definitions.specs.Plans.Certificate
pub mod Sets
pub mod Plans
pub mod Preceding
pub mod Certificates
pub mod Versions
