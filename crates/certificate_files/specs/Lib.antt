pub use Rattle.definitions.specs.Certificates
pub use Rattle.certificate.specs.Planned
pub mod FirstLine
pub mod Telling
pub mod BlockLine
pub mod Judged
