-- Indexes of a table that gets further rows.
use Rattle.std.specs.Prelude.{ℕ, ◌≡◌, ◌<◌, true, List, [], Option, Some, None, nat_le, if◌then◌else◌, length, map, take}
use Rattle.std.specs.Prelude.{slice_get, slice_index_or, IsTrue, ⊤}
use Rattle.std.specs.List.{AllByRecursion, AllZip}
use Rattle.definitions.specs.Table.{Column, Row}
use Rattle.definitions.specs.Key.{key_of, repeats, AreUnique}
use Rattle.indexes.specs.declared.repeated.RepeatedKey.{RepeatedKey}
use Rattle.indexes.specs.Indexes.{StoredIndex, AreIndexColumns, IsIndexOn, IsBeginning}
use Rattle.indexes.specs.declared.extension.RepeatedRow.{RepeatedRow}
use Rattle.indexes.specs.declared.extension.ExtendFault.{ExtendFault}
use Rattle.indexes.specs.declared.extension.ExtendFault.TheVariants as e

-- an index on columns of so many has the first of some rows
pub record IsBeginningOf (width : ℕ) (rows : List Row) (i : StoredIndex) : Type 0 where
  pub on : AreIndexColumns width i.index.columns
  pub beginning : IsBeginning rows i

-- each index on the same columns, of all rows
abbrev pub AreExtended : List Column → List Row → List StoredIndex → List StoredIndex → Type 0
AreExtended columns rows =
    AllZip (λ (old new : StoredIndex). IsIndexOn columns rows old.index.columns old.index.unique new)

-- no key of a unique index comes twice in the rows
abbrev pub AreOnce : List Row → List StoredIndex → Type 0
AreOnce rows =
    AllByRecursion (λ (i : StoredIndex). i.index.unique ≡ true → AreUnique (map (key_of i.index.columns) rows))

abbrev pub row_of : List Row → ℕ → Row
row_of rows row = slice_index_or rows row []

-- a row's key repeats that of an earlier one in a unique index
pub record RepeatsIn (i : StoredIndex) (rows : List Row) (row earlier : ℕ) : Type 0 where
  pub unique : i.index.unique ≡ true
  pub again : IsTrue (repeats (key_of i.index.columns (row_of rows row)) (key_of i.index.columns (row_of rows earlier)))

-- the first row whose key repeats one of an earlier row in some unique index
pub record IsFirstRepeat (indexes : List StoredIndex) (rows : List Row) (r : RepeatedRow) : Type 0 where
  pub within : r.row < length rows
  pub earlier : r.earlier < r.row
  pub index : StoredIndex
  pub named : slice_get indexes r.index ≡ Some index
  pub again : RepeatsIn index rows r.row r.earlier
  pub before : AreOnce (take r.row rows) indexes

abbrev pub RefusesExtension : List StoredIndex → List Row → ExtendFault → Type 0
RefusesExtension indexes rows (e.Repeated repeated) = IsFirstRepeat indexes rows repeated
RefusesExtension indexes rows e.Memory = ⊤

abbrev pub IsMemory : ExtendFault → Type 0
IsMemory (e.Repeated repeated) = ⊥
IsMemory e.Memory = ⊤

-- of two repeated rows the one that stands first
abbrev pub earlier_repeat : Option RepeatedRow → ℕ → RepeatedKey → RepeatedRow
earlier_repeat None index key = record { index = index; row = key.row; earlier = key.earlier }
earlier_repeat (Some r) index key =
    if nat_le r.row key.row then r else record { index = index; row = key.row; earlier = key.earlier }
