-- Where the column of a name stands.
use Rattle.std.specs.Prelude.{ℕ, ◌≡◌, List, ◌∷◌, Option, Some, None, if◌then◌else◌, length, option_map, bytes_eq}
use Rattle.std.specs.Prelude.{slice_get, slice_index_or}
use Rattle.definitions.specs.Value.{Value, Null}
use Rattle.definitions.specs.Statement.{Name}
use Rattle.definitions.specs.Table.{Column, Row, type_named}

-- the value of a row in the column of a name
abbrev pub value_named : List Column → Row → Name → Option Value
value_named (c ∷ cs) (v ∷ vs) name = if bytes_eq c.name name then Some v else value_named cs vs name
value_named _ _ name = None

-- the column at a place is the one of a name, and its values in rows are those of the name
pub record IsColumnPlace (columns : List Column) (name : Name) (place : ℕ) : Type 0 where
  pub typed : type_named columns name ≡ option_map (λ (c : Column). c.type) (slice_get columns place)
  pub valued : (row : Row) → length row ≡ length columns
      → value_named columns row name ≡ Some (slice_index_or row place Null)
