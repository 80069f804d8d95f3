-- What the lexemes of this crate stand for, and what begins a text.
use Rattle.std.specs.Prelude.{ℕ, ◌≤◌, ◌≡◌, List, [], ◌∷◌, ◌++◌, Option, Some, Result, Ok, Err, Bool, false, ◌&&◌, ◌||◌}
use Rattle.std.specs.Prelude.{◌==◌, IsTrue, length, take, drop, option_map, unwrap_or, if◌then◌else◌}
use Rattle.definitions.specs.Characters.{minus_sign, period, underscore, is_letter, is_digit, is_blank}
use Rattle.definitions.specs.Token as token
use Rattle.definitions.specs.Lexing as lexing
use Rattle.lexer.specs.Meaning.{symbol_of, kind_of, fault_of}
use Rattle.lexer.specs.Quoted.{unquoted, behind_first}
use Rattle.lexer.specs.declared.token.TokenKind.{TokenKind}
use Rattle.lexer.specs.declared.fault.LexFault.{LexFault}
use Rattle.lexer.specs.declared.lexeme.Lexeme.{Lexeme}
use Rattle.lexer.specs.declared.lexeme.Lexeme.TheVariants as lexeme

abbrev pub quotation_of : (own : List ℕ) → (closed : Bool) → lexing.Lexeme
quotation_of own closed = lexing.Quotation (record { closed = closed; codes = unquoted false (behind_first own) })

abbrev pub lexeme_of : (own : List ℕ) → Lexeme → lexing.Lexeme
lexeme_of own lexeme.Gap = lexing.Gap
lexeme_of own lexeme.Word = lexing.Word'
lexeme_of own lexeme.Number = lexing.Number
lexeme_of own (lexeme.Quotation closed) = quotation_of own closed
lexeme_of own (lexeme.Sign symbol) = lexing.Sign (symbol_of symbol)
lexeme_of own lexeme.RunOn = lexing.RunOn
lexeme_of own lexeme.Stray = lexing.Stray

-- the first n bytes of a text are a lexeme, and no longer beginning is one
pub record IsFirst (text : List ℕ) (l : Lexeme) (n : ℕ) : Type 0 where
  pub within : n ≤ length text
  pub same : lexing.lexeme_of (take n text) ≡ Some (lexeme_of (take n text) l)
  pub longest : IsTrue (lexing.is_longest (take n text) (drop n text))

-- a digit, or a point with a digit behind it
abbrev pub begins_numeral : List ℕ → Bool
begins_numeral [] = false
begins_numeral (c ∷ []) = is_digit c
begins_numeral (c ∷ d ∷ rest) = is_digit c || ((c == period) && is_digit d)

-- a letter or an underscore
abbrev pub runs_on : List ℕ → Bool
runs_on [] = false
runs_on (c ∷ rest) = is_letter c || (c == underscore)

abbrev pub begins_comment : List ℕ → Bool
begins_comment (c ∷ d ∷ rest) = (c == minus_sign) && (d == minus_sign)
begins_comment _ = false

-- what a byte is that begins no longer lexeme
abbrev pub lexeme_of_byte : ℕ → lexing.Lexeme
lexeme_of_byte c =
    unwrap_or (option_map lexing.Sign (lexing.symbol (c ∷ []))) (if is_blank c then lexing.Gap else lexing.Stray)

-- no text that goes on with the next byte is a number
abbrev pub EndsNumeral : (own rest : List ℕ) → Type 0
EndsNumeral own [] = Unit {0}
EndsNumeral own (c ∷ rest) = (more : List ℕ) → lexing.is_numeral (own ++ c ∷ more) ≡ false

-- the first n bytes of a text are a number, and no longer beginning is one
pub record IsNumeralLength (text : List ℕ) (n : ℕ) : Type 0 where
  pub within : n ≤ length text
  pub same : IsTrue (lexing.is_numeral (take n text))
  pub longest : EndsNumeral (take n text) (drop n text)

-- the token, the gap or the fault that a lexeme at a place is told as
abbrev pub outcome_of : (start : ℕ) → (own : List ℕ) → Result (Option TokenKind) LexFault
    → Option (Result (Option token.Token) lexing.LexFault)
outcome_of start own (Ok kind) =
    Some (Ok (option_map (λ (k : TokenKind). record { at = start; text = own; kind = kind_of own k }) kind))
outcome_of start own (Err fault) = option_map Err (fault_of fault)
