pub use Rattle.definitions.specs.Statement
pub mod Lists
pub mod Trees
