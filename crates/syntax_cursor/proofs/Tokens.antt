-- The kinds of tokens, place by place.
use Rattle.std.proofs.Common.{◌≡◌, ◌∙◌, refl, sym, ap, ℕ, zero, suc, ◌<◌, List, [], ◌∷◌, Some, None, length, arith}
use Rattle.std.specs.Prelude.{slice_get, option_map}
use Rattle.definitions.specs.Token as token
use Rattle.definitions.specs.Word as word
use Rattle.lexer.specs.declared.word.Word.{Word}
use Rattle.lexer.specs.declared.word.Word.TheVariants as w
use Rattle.lexer.specs.declared.token.Symbol.{Symbol}
use Rattle.lexer.specs.declared.token.Symbol.TheVariants as s
use Rattle.lexer.specs.declared.token.Token.{Token}
use Rattle.lexer.specs.Meaning.{kind_of, kinds_of, symbol_of, word_of}

abbrev pub kind_there : Token → token.TokenKind
kind_there t = kind_of t.text.now t.kind

-- what stands at a place is the kind of the token there
pub kind_at : (ts : List Token) (i : ℕ) → slice_get (kinds_of ts) i ≡ option_map kind_there (slice_get ts i)
kind_at [] i = refl
kind_at (t ∷ ts) zero = refl
kind_at (t ∷ ts) (suc i) = kind_at ts i

pub here : (ts : List Token) (at : ℕ) (t : Token) → Some t ≡ slice_get ts at → slice_get (kinds_of ts) at ≡ Some (kind_there t)
here ts at t e = kind_at ts at ∙ ap (λ o. option_map kind_there o) (sym e)

pub nowhere : (ts : List Token) (at : ℕ) → None ≡ slice_get ts at → slice_get (kinds_of ts) at ≡ None
nowhere ts at e = kind_at ts at ∙ ap (λ o. option_map kind_there o) (sym e)

-- ---- words and symbols are told apart as those of the definitions are

word_back : word.Word → Word
word_back word.All = w.All
word_back word.And = w.And
word_back word.Any = w.Any
word_back word.As = w.As
word_back word.Asc = w.Asc
word_back word.Avg = w.Avg
word_back word.Between = w.Between
word_back word.By = w.By
word_back word.Char = w.Char
word_back word.Character = w.Character
word_back word.Clustered = w.Clustered
word_back word.Count = w.Count
word_back word.Create = w.Create
word_back word.Dec = w.Dec
word_back word.Decimal = w.Decimal
word_back word.Desc = w.Desc
word_back word.Distinct = w.Distinct
word_back word.Exists = w.Exists
word_back word.Explain = w.Explain
word_back word.From = w.From
word_back word.Group = w.Group
word_back word.Having = w.Having
word_back word.High = w.High
word_back word.In = w.In
word_back word.Index = w.Index
word_back word.Int = w.Int
word_back word.Integer = w.Integer
word_back word.Is = w.Is
word_back word.Key = w.Key
word_back word.Keys = w.Keys
word_back word.Like = w.Like
word_back word.Load = w.Load
word_back word.Low = w.Low
word_back word.Max = w.Max
word_back word.Min = w.Min
word_back word.Not = w.Not
word_back word.Null = w.Null
word_back word.Numeric = w.Numeric
word_back word.On = w.On
word_back word.Or = w.Or
word_back word.Order = w.Order
word_back word.Pages = w.Pages
word_back word.Primary = w.Primary
word_back word.Rows = w.Rows
word_back word.Select = w.Select
word_back word.Set = w.Set
word_back word.Smallint = w.Smallint
word_back word.Some = w.Some
word_back word.Statistics = w.Statistics
word_back word.Sum = w.Sum
word_back word.Table = w.Table
word_back word.Unique = w.Unique
word_back word.Where = w.Where

word_returns : (x : Word) → word_back (word_of x) ≡ x
unfolding word_back
word_returns w.All = refl
word_returns w.And = refl
word_returns w.Any = refl
word_returns w.As = refl
word_returns w.Asc = refl
word_returns w.Avg = refl
word_returns w.Between = refl
word_returns w.By = refl
word_returns w.Char = refl
word_returns w.Character = refl
word_returns w.Clustered = refl
word_returns w.Count = refl
word_returns w.Create = refl
word_returns w.Dec = refl
word_returns w.Decimal = refl
word_returns w.Desc = refl
word_returns w.Distinct = refl
word_returns w.Exists = refl
word_returns w.Explain = refl
word_returns w.From = refl
word_returns w.Group = refl
word_returns w.Having = refl
word_returns w.High = refl
word_returns w.In = refl
word_returns w.Index = refl
word_returns w.Int = refl
word_returns w.Integer = refl
word_returns w.Is = refl
word_returns w.Key = refl
word_returns w.Keys = refl
word_returns w.Like = refl
word_returns w.Load = refl
word_returns w.Low = refl
word_returns w.Max = refl
word_returns w.Min = refl
word_returns w.Not = refl
word_returns w.Null = refl
word_returns w.Numeric = refl
word_returns w.On = refl
word_returns w.Or = refl
word_returns w.Order = refl
word_returns w.Pages = refl
word_returns w.Primary = refl
word_returns w.Rows = refl
word_returns w.Select = refl
word_returns w.Set = refl
word_returns w.Smallint = refl
word_returns w.Some = refl
word_returns w.Statistics = refl
word_returns w.Sum = refl
word_returns w.Table = refl
word_returns w.Unique = refl
word_returns w.Where = refl

pub same_word : (x y : Word) → word_of x ≡ word_of y → x ≡ y
same_word x y e = sym (word_returns x) ∙ ap word_back e ∙ word_returns y

symbol_back : token.Symbol → Symbol
symbol_back token.OpenParen = s.OpenParen
symbol_back token.CloseParen = s.CloseParen
symbol_back token.Comma = s.Comma
symbol_back token.Semicolon = s.Semicolon
symbol_back token.Point = s.Point
symbol_back token.Asterisk = s.Asterisk
symbol_back token.Plus = s.Plus
symbol_back token.Minus = s.Minus
symbol_back token.Solidus = s.Solidus
symbol_back token.Equals = s.Equals
symbol_back token.NotEquals = s.NotEquals
symbol_back token.LessThan = s.LessThan
symbol_back token.GreaterThan = s.GreaterThan
symbol_back token.LessOrEquals = s.LessOrEquals
symbol_back token.GreaterOrEquals = s.GreaterOrEquals

symbol_returns : (x : Symbol) → symbol_back (symbol_of x) ≡ x
unfolding symbol_back
symbol_returns s.OpenParen = refl
symbol_returns s.CloseParen = refl
symbol_returns s.Comma = refl
symbol_returns s.Semicolon = refl
symbol_returns s.Point = refl
symbol_returns s.Asterisk = refl
symbol_returns s.Plus = refl
symbol_returns s.Minus = refl
symbol_returns s.Solidus = refl
symbol_returns s.Equals = refl
symbol_returns s.NotEquals = refl
symbol_returns s.LessThan = refl
symbol_returns s.GreaterThan = refl
symbol_returns s.LessOrEquals = refl
symbol_returns s.GreaterOrEquals = refl

pub same_symbol : (x y : Symbol) → symbol_of x ≡ symbol_of y → x ≡ y
same_symbol x y e = sym (symbol_returns x) ∙ ap symbol_back e ∙ symbol_returns y

-- ---- places and their number

pub length-kinds : (ts : List Token) → length (kinds_of ts) ≡ length ts
length-kinds [] = refl
length-kinds (t ∷ ts) = ap suc (length-kinds ts)

pub inside : {A : Type 0} (xs : List A) (i : ℕ) (x : A) → slice_get xs i ≡ Some x → i < length xs
inside [] i x e = absurd cc
inside (y ∷ ys) zero x e = omega arith
inside (y ∷ ys) (suc i) x e = omega (arith, inside ys i x e)
