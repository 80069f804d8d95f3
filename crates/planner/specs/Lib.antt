pub use Rattle.definitions.specs.Certificates.Explaining
pub mod Planned
