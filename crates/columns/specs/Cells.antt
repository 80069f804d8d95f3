-- A column as a list of values, and what a push adds to it.
use Rattle.std.specs.Prelude.{ℕ, ℤ, ◌-◌, ◌≤◌, List, ◌++◌, Option, Some, None, length, replicate}
use Rattle.std.specs.Str.{IsAscii}
use Rattle.definitions.specs.Characters.{space}
use Rattle.definitions.specs.Value.{Value, Null, Number, Text, SqlType, Char, scale_of}

-- the type of a column's values, and these
pub record CellList : Type 0 where
  pub type : SqlType
  pub values : List Value

-- the value of a cell of numbers
abbrev pub number_or_null : SqlType → Option ℤ → Value
number_or_null type None = Null
number_or_null type (Some units) = Number units (scale_of type)

-- a text with spaces behind it, as many as make it n characters long
abbrev pub padded : ℕ → List ℕ → List ℕ
padded n codes = codes ++ replicate (n - length codes) space

-- how long the texts of a type are
abbrev pub length_of : SqlType → ℕ
length_of (Char n) = n
length_of _ = 0

-- the value of a cell of texts
abbrev pub text_or_null : SqlType → Option (List ℕ) → Value
text_or_null type None = Null
text_or_null type (Some codes) = Text (padded (length_of type) codes)

-- characters that a column has room for
abbrev pub FitsIn : SqlType → List ℕ → Type 0
FitsIn type codes = (length codes ≤ length_of type) × IsAscii codes
