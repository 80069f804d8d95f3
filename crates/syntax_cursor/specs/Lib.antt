pub use Rattle.definitions.specs.Grammar
pub use Rattle.lexer.specs.Meaning
pub use Rattle.parse_tree.specs.Trees
pub mod Leaves
pub mod Places
pub mod Reading
