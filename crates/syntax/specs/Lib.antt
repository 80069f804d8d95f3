pub use Rattle.definitions.specs.Grammar
pub use Rattle.definitions.specs.Statement
pub use Rattle.lexer.specs.Meaning
pub use Rattle.parse_tree.specs.Trees
pub mod Lists
pub mod Places
pub mod Reading
