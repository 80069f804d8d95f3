pub mod CommandLine
pub mod Request
pub use Rattle.clap.specs.Words
