use Rattle.std.proofs.Common.{◌≡◌, ◌++◌, false}
use Rattle.std.specs.Prelude.{string_bytes}
use Rattle.lexer.specs.Quoted.{unquoted}
use Rattle.syntax_cursor.proofs.text.undouble_quotes.Given as goal

-- what is read, and what the rest reads as, is the whole
abbrev pub invariant-characters : goal.invariant-characters
invariant-characters l = string_bytes l.inner ++ unquoted l.after_quote l.character-iterator.rest.now ≡ unquoted false l.quoted
