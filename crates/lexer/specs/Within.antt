-- How long a number token is at most, and what a string token holds.
use Rattle.std.specs.Prelude.{ℕ, ◌≡◌, ◌≤◌, ◌+◌, List, length}
use Rattle.definitions.specs.Binding.Formed.{IsWrittenString}
use Rattle.definitions.specs.Limits.{most_digits}
use Rattle.definitions.specs.Lexing.{digits_of}
use Rattle.lexer.specs.Quoted.{quoted_text}
use Rattle.lexer.specs.declared.token.TokenKind.{TokenKind}
use Rattle.lexer.specs.declared.token.TokenKind.TheVariants as k

-- a text of no more digits than a number may have, and beside them at most its point
abbrev pub IsShort : List ℕ → Type 0
IsShort text = (length (digits_of text) ≤ most_digits) × (length text ≤ length (digits_of text) + 1)

-- the text of a number token is short
abbrev pub IsNumberWithin : TokenKind → List ℕ → Type 0
IsNumberWithin kind text = kind ≡ k.Numeral → IsShort text

-- the characters of a string token are as they can be written
abbrev pub IsStringWithin : TokenKind → List ℕ → Type 0
IsStringWithin kind text = kind ≡ k.String → IsWrittenString (quoted_text text)
