-- Keys that come twice.
use Rattle.std.specs.Prelude.{ℕ, ◌<◌, List, [], take, length, slice_index_or, IsTrue, ◌+◌, ◌&&◌, not, nat_lt}
use Rattle.std.specs.Prelude.{if◌then◌else◌, Option, Some, None}
use Rattle.std.specs.Ordering.{is_eq}
use Rattle.columns.specs.Cells.{CellList}
use Rattle.indexes.specs.Keys.{key_in}
use Rattle.definitions.specs.Key.{Key, key_rank, has_null, repeats, AreUnique}
use Rattle.indexes.specs.declared.repeated.RepeatedKey.{RepeatedKey}
use Rattle.indexes.specs.declared.unique.UniqueFault.{UniqueFault}
use Rattle.indexes.specs.declared.unique.UniqueFault.TheVariants as u

-- the key of a row repeats that of an earlier one, and no two rows before it repeat each other
pub record IsFirstRepeated (keys : List Key) (fault : RepeatedKey) : Type 0 where
  pub within : fault.row < length keys
  pub earlier : fault.earlier < fault.row
  pub again : IsTrue (repeats (slice_index_or keys fault.row []) (slice_index_or keys fault.earlier []))
  pub first : AreUnique (take fault.row keys)

abbrev pub IfRepeated : (RepeatedKey → Type 0) → UniqueFault → Type 0
IfRepeated P (u.Repeated fault) = P fault
IfRepeated P u.Memory = Unit {0}

abbrev pub IsMemory : UniqueFault → Type 0
IsMemory (u.Repeated fault) = ⊥
IsMemory u.Memory = Unit {0}

-- the row behind a place of an order of rows, where its key repeats that of the row at the place
abbrev pub repeat_at : List CellList → List ℕ → ℕ → Option RepeatedKey
repeat_at columns rows place =
    if not (has_null (key_in columns (slice_index_or rows (place + 1) 0)))
    && is_eq (key_rank (key_in columns (slice_index_or rows place 0))
    (key_in columns (slice_index_or rows (place + 1) 0)))
    then Some (record { row = slice_index_or rows (place + 1) 0; earlier = slice_index_or rows place 0 })
    else None

-- the lower of two such rows
abbrev pub lower_of : Option RepeatedKey → Option RepeatedKey → Option RepeatedKey
lower_of None b = b
lower_of (Some x) None = Some x
lower_of (Some x) (Some y) = if nat_lt y.row x.row then Some y else Some x
