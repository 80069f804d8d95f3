pub use Rattle.definitions.specs.Token
pub use Rattle.definitions.specs.Lexing
pub mod Words
pub mod Quoted
pub mod Meaning
pub mod Lexeme
pub mod Within
