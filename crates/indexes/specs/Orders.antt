-- The orders of rows.
use Rattle.std.specs.Prelude.{◌≡◌, Bool, true, false, List, ⊤}
use Rattle.definitions.specs.Key.{AreUnique}
use Rattle.definitions.specs.IndexRun.{IsRun}
use Rattle.columns.specs.Cells.{CellList}
use Rattle.indexes.specs.Keys.{keys_in, types_of}
use Rattle.indexes.specs.Runs.{Index}
use Rattle.indexes.specs.Repeats.{IsFirstRepeated}
use Rattle.indexes.specs.declared.unique.UniqueFault.{UniqueFault}
use Rattle.indexes.specs.declared.unique.UniqueFault.TheVariants as u
use Rattle.indexes.specs.declared.index_kind.IndexKind.{IndexKind}
use Rattle.indexes.specs.declared.index_kind.IndexKind.TheVariants as o

abbrev pub run_of : IndexKind → Index
run_of (o.Sorted index) = index
run_of (o.Unique index) = index

abbrev pub is_unique : IndexKind → Bool
is_unique (o.Sorted index) = false
is_unique (o.Unique index) = true

-- the order of the rows of columns, in which keys come once or may come again
pub record IsOrderOf (columns : List CellList) (unique : Bool) (order : IndexKind) : Type 0 where
  pub kind : is_unique order ≡ unique
  pub types : (run_of order).types ≡ types_of columns
  pub run : IsRun (keys_in columns) (run_of order).entries
  pub once : unique ≡ true → AreUnique (keys_in columns)

-- why there is none: a key comes again, or memory was wanting
abbrev pub RefusesOrder : List CellList → Bool → UniqueFault → Type 0
RefusesOrder columns unique (u.Repeated repeated) = (unique ≡ true) × IsFirstRepeated (keys_in columns) repeated
RefusesOrder columns unique u.Memory = ⊤
