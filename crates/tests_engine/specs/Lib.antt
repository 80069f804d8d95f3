pub mod Files
pub mod Runs
pub use Rattle.sqlr.specs.Sessions
