pub use Rattle.definitions.specs.Certificates
pub use Rattle.definitions.specs.Certificates.Explaining
pub use Rattle.plan_space.specs.Planned
pub mod Blocks
pub mod Lines
pub mod Reads
pub mod Spaces
