-- What a column of texts keeps.
use Rattle.std.specs.Prelude.{ℕ, ◌≡◌, ◌*◌, List, [], ◌∷◌, Bool, if◌then◌else◌, take, drop, length}
use Rattle.std.specs.String.{string_bytes}
use Rattle.std.specs.Str.{IsAscii}
use Rattle.definitions.specs.Value.{Value, Null, Text, Char}
use Rattle.columns.specs.Cells.{CellList}
use Rattle.columns.specs.declared.text.TextColumn.TheInside.{Inside}

-- texts of one length, but for those that are null
abbrev pub text_values : ℕ → List ℕ → List Bool → List Value
text_values length codes [] = []
text_values length codes (null ∷ nulls) = (if null then Null else Text (take length codes))
    ∷ text_values length (drop length codes) nulls

abbrev pub texts_of : ℕ → List ℕ → List Bool → CellList
texts_of length codes nulls = record { type = Char length; values = text_values length codes nulls }

abbrev pub text_list : Inside → CellList
text_list c = texts_of c.length (string_bytes c.characters) c.nulls

-- characters of ASCII, as many for each flag as the column is long
pub record IsTextColumn (c : Inside) : Type 0 where
  pub filled : length (string_bytes c.characters) ≡ c.length * length c.nulls
  pub ascii : IsAscii (string_bytes c.characters)
