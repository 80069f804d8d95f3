-- Where a row comes in an order of rows.
use Rattle.std.specs.Prelude.{ℕ, ◌≡◌, Bool, not, ◌&&◌, ◌||◌, ◌==◌, ◌-◌, ◌<◌, ◌≤◌, List, [], ◌∷◌, ◌++◌, length, map, take, drop}
use Rattle.std.specs.Prelude.{slice_index_or}
use Rattle.std.specs.Ordering.{is_eq}
use Rattle.definitions.specs.Key.{has_null, key_rank}
use Rattle.definitions.specs.IndexRun.{comes_before}
use Rattle.columns.specs.Cells.{CellList}
use Rattle.columns.specs.Starts.{value_in}
use Rattle.indexes.specs.Keys.{entry_in, key_in}
use Rattle.indexes.specs.declared.merging.KeyedRows.{KeyedRows}

-- the row at a place of an order does not come before another row
unfoldable pub is_behind : List CellList → List ℕ → (row place : ℕ) → Bool
is_behind columns rows row place =
    not (comes_before (entry_in columns (slice_index_or rows place 0)) (entry_in columns row))

-- the key of a row behind others has no null and differs from the last one's
abbrev pub begins_anew : List CellList → List ℕ → ℕ → Bool
begins_anew columns rows row = not (has_null (key_in columns row))
    && (length rows == 0
    || not (is_eq (key_rank (key_in columns (slice_index_or rows (length rows - 1) 0)) (key_in columns row))))

-- all rows of one list come in the table before all of another
abbrev pub AreEarlier : List ℕ → List ℕ → Type 0
AreEarlier old further = (i j : ℕ) → i < length old → j < length further
    → slice_index_or old i 0 < slice_index_or further j 0

-- further items among old ones, of which those from a place on are left: each stands before the old one at its place
abbrev pub woven : {A : Type 0} → List A → ℕ → List A → List ℕ → List A
woven old from (x ∷ further) (to ∷ places) = take (to - from) (drop from old) ++ x ∷ woven old to further places
woven old from _ _ = drop from old

-- places that do not fall, of which none lies before one place or behind another
abbrev pub ArePlaces : (from end : ℕ) → List ℕ → Type 0
ArePlaces from end [] = from ≤ end
ArePlaces from end (to ∷ places) = (from ≤ to) × ArePlaces to end places

-- the rows are old ones, with the further ones at their places
pub record AreWoven (old : List ℕ) (keyed : KeyedRows) : Type 0 where
  pub rows : keyed.rows.items ≡ woven old 0 keyed.further.items keyed.places.items
  pub places : ArePlaces 0 (length old) keyed.places.items
  pub each : length keyed.places.items ≡ length keyed.further.items

-- the values that a column has in the rows are those of another one, with those of the further rows at their places
pub record IsCarried (keyed : KeyedRows) (column old : CellList) : Type 0 where
  pub values : map (value_in column) keyed.rows.items ≡ woven old.values 0 (map (value_in column) keyed.further.items)
      keyed.places.items
  pub places : ArePlaces 0 (length old.values) keyed.places.items
  pub each : length keyed.places.items ≡ length keyed.further.items
