pub use Rattle.definitions.specs.Certificates.Text
pub mod Said
pub mod Words
pub mod Reading
