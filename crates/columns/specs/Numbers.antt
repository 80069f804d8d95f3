-- What a column of numbers keeps.
use Rattle.std.specs.Prelude.{ℕ, ℤ, ◌≡◌, List, [], ◌∷◌, Bool, if◌then◌else◌, length, All, FitsSigned}
use Rattle.std.specs.Int.{w64}
use Rattle.definitions.specs.Value.{Value, Null, Number, SqlType, Numbers, kind_of, scale_of, IsType}
use Rattle.sqlvalue.specs.Meaning.{type_of}
use Rattle.columns.specs.Cells.{CellList}
use Rattle.columns.specs.declared.number.NumberColumn.TheInside.{Inside}

-- units at a scale, but for those that are null
abbrev pub number_values : ℕ → List ℤ → List Bool → List Value
number_values scale (u ∷ us) (null ∷ nulls) = (if null then Null else Number u scale) ∷ number_values scale us nulls
number_values scale _ _ = []

abbrev pub numbers_of : SqlType → List ℤ → List Bool → CellList
numbers_of type us nulls = record { type = type; values = number_values (scale_of type) us nulls }

abbrev pub number_list : Inside → CellList
number_list c = numbers_of (type_of c.sql_type) c.units.items c.nulls

-- a flag for each number of 64 bits, under a type of numbers
pub record IsNumberColumn (c : Inside) : Type 0 where
  pub paired : length c.units.items ≡ length c.nulls
  pub ranged : All (FitsSigned w64) c.units.items
  pub numbers : kind_of (type_of c.sql_type) ≡ Numbers
  pub valid : IsType (type_of c.sql_type)
