-- What the tokens and faults of this crate stand for.
use Rattle.std.specs.Prelude.{ℕ, ◌≤◌, ◌+◌, ◌≡◌, ⊤, List, [], ◌∷◌, Option, Some, None, length, map, slice_range}
use Rattle.std.specs.Str.Parse.{digits_value}
use Rattle.definitions.specs.Characters.{folded}
use Rattle.definitions.specs.Word as spec
use Rattle.definitions.specs.Token as token
use Rattle.definitions.specs.Lexing as lexing
use Rattle.definitions.specs.Grammar.{kinds}
use Rattle.definitions.specs.Refusal as refusal
use Rattle.lexer.specs.Quoted.{quoted_text}
use Rattle.lexer.specs.declared.numeral.Numeral.{Numeral}
use Rattle.lexer.specs.declared.word.Word.{Word}
use Rattle.lexer.specs.declared.word.Word.TheVariants as w
use Rattle.lexer.specs.declared.token.Symbol.{Symbol}
use Rattle.lexer.specs.declared.token.Symbol.TheVariants as s
use Rattle.lexer.specs.declared.token.TokenKind.{TokenKind}
use Rattle.lexer.specs.declared.token.TokenKind.TheVariants as k
use Rattle.lexer.specs.declared.token.Token.{Token}
use Rattle.lexer.specs.declared.fault.LexFault.{LexFault}
use Rattle.lexer.specs.declared.fault.LexFault.TheVariants as f

abbrev pub word_of : Word → spec.Word
word_of w.All = spec.All
word_of w.And = spec.And
word_of w.Any = spec.Any
word_of w.As = spec.As
word_of w.Asc = spec.Asc
word_of w.Avg = spec.Avg
word_of w.Between = spec.Between
word_of w.By = spec.By
word_of w.Char = spec.Char
word_of w.Character = spec.Character
word_of w.Clustered = spec.Clustered
word_of w.Count = spec.Count
word_of w.Create = spec.Create
word_of w.Dec = spec.Dec
word_of w.Decimal = spec.Decimal
word_of w.Desc = spec.Desc
word_of w.Distinct = spec.Distinct
word_of w.Exists = spec.Exists
word_of w.Explain = spec.Explain
word_of w.From = spec.From
word_of w.Group = spec.Group
word_of w.Having = spec.Having
word_of w.High = spec.High
word_of w.In = spec.In
word_of w.Index = spec.Index
word_of w.Int = spec.Int
word_of w.Integer = spec.Integer
word_of w.Is = spec.Is
word_of w.Key = spec.Key
word_of w.Keys = spec.Keys
word_of w.Like = spec.Like
word_of w.Load = spec.Load
word_of w.Low = spec.Low
word_of w.Max = spec.Max
word_of w.Min = spec.Min
word_of w.Not = spec.Not
word_of w.Null = spec.Null
word_of w.Numeric = spec.Numeric
word_of w.On = spec.On
word_of w.Or = spec.Or
word_of w.Order = spec.Order
word_of w.Pages = spec.Pages
word_of w.Primary = spec.Primary
word_of w.Rows = spec.Rows
word_of w.Select = spec.Select
word_of w.Set = spec.Set
word_of w.Smallint = spec.Smallint
word_of w.Some = spec.Some
word_of w.Statistics = spec.Statistics
word_of w.Sum = spec.Sum
word_of w.Table = spec.Table
word_of w.Unique = spec.Unique
word_of w.Where = spec.Where

abbrev pub symbol_of : Symbol → token.Symbol
symbol_of s.OpenParen = token.OpenParen
symbol_of s.CloseParen = token.CloseParen
symbol_of s.Comma = token.Comma
symbol_of s.Semicolon = token.Semicolon
symbol_of s.Point = token.Point
symbol_of s.Asterisk = token.Asterisk
symbol_of s.Plus = token.Plus
symbol_of s.Minus = token.Minus
symbol_of s.Solidus = token.Solidus
symbol_of s.Equals = token.Equals
symbol_of s.NotEquals = token.NotEquals
symbol_of s.LessThan = token.LessThan
symbol_of s.GreaterThan = token.GreaterThan
symbol_of s.LessOrEquals = token.LessOrEquals
symbol_of s.GreaterOrEquals = token.GreaterOrEquals

-- what a number says
abbrev pub numeral_parts : Numeral → ℕ × ℕ × Option ℕ
numeral_parts n = (n.units, n.digits, n.fraction)

-- what a token is, from its text
abbrev pub kind_of : (text : List ℕ) → TokenKind → token.TokenKind
kind_of text (k.Reserved word) = token.Reserved (word_of word)
kind_of text k.Name = token.Name (folded text)
kind_of text k.Numeral =
    token.Numeral (digits_value 10 (lexing.digits_of text)) (length (lexing.digits_of text)) (lexing.behind_point text)
kind_of text k.String = token.String (quoted_text text)
kind_of text (k.Mark symbol) = token.Mark (symbol_of symbol)

abbrev pub token_of : Token → token.Token
token_of t = record { at = t.start; text = t.text.now; kind = kind_of t.text.now t.kind }

abbrev pub tokens_of : List Token → List token.Token
tokens_of = map token_of

-- what the tokens of a script are, in their order
abbrev pub kinds_of : List Token → List token.TokenKind
kinds_of tokens = kinds (tokens_of tokens)

-- each token's text is its slice of the script, behind the tokens before it
abbrev pub AreSlices : (script : List ℕ) → (from : ℕ) → List Token → Type 0
AreSlices script from [] = ⊤
AreSlices script from (t ∷ ts) =
    (from ≤ t.start) × (slice_range script t.start (t.start + length t.text.now) ≡ t.text.now)
    × AreSlices script (t.start + length t.text.now) ts

-- the lexical fault that an error tells; none where memory was wanting
abbrev pub fault_of : LexFault → Option lexing.LexFault
fault_of (f.StrayCharacter offset place) = Some (record { refusal = refusal.StrayCharacter; at = offset })
fault_of (f.OpenString offset) = Some (record { refusal = refusal.OpenString; at = offset })
fault_of (f.LongLiteral offset literal) = Some (record { refusal = refusal.LongLiteral; at = offset })
fault_of (f.LongName offset characters) = Some (record { refusal = refusal.LongName; at = offset })
fault_of (f.Memory offset) = None
