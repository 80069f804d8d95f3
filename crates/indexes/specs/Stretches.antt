-- Keys that stand together.
use Rattle.std.specs.Prelude.{ℕ, ◌≡◌, ◌≤◌, ◌<◌, ◌≢◌, Bool, ◌&&◌, not, List, [], length, slice_index_or}
use Rattle.definitions.specs.Value.{Value}
use Rattle.definitions.specs.Key.{Key}
use Rattle.definitions.specs.IndexRun.{Entry, keys_of, begins_with, Limit, Unlimited, Inclusive, Exclusive}
use Rattle.std.specs.Prelude.{nat_lt}
use Rattle.std.specs.declared.cmp.Ordering.TheVariants.{Greater}
use Rattle.definitions.specs.Value.{rank}
use Rattle.columns.specs.Cells.{CellList}
use Rattle.columns.specs.Starts.{value_in}
use Rattle.indexes.specs.declared.key_column.Stretch.{Stretch}

abbrev pub is_within : Stretch → ℕ → Bool
is_within stretch place = not (nat_lt place stretch.from) && nat_lt place stretch.to

-- a stretch lies in another
pub record IsWithin (part whole : Stretch) : Type 0 where
  pub from : whole.from ≤ part.from
  pub forward : part.from ≤ part.to
  pub to : part.to ≤ whole.to

abbrev pub key_at : List Entry → ℕ → Key
key_at entries place = slice_index_or (keys_of entries) place []

-- the keys of a stretch are those that begin with values
pub record IsStretchOf (values : List Value) (entries : List Entry) (stretch : Stretch) : Type 0 where
  pub forward : stretch.from ≤ stretch.to
  pub inside : stretch.to ≤ length entries
  pub exact : (place : ℕ) → place < length entries → begins_with values (key_at entries place) ≡ is_within stretch place

-- from there on values aren't up to a limit any more
abbrev pub turned_limit : Limit → Limit
turned_limit Unlimited = Unlimited
turned_limit (Inclusive value) = Exclusive value
turned_limit (Exclusive value) = Inclusive value

-- in a stretch no value ranks after a later one
abbrev pub AreInOrder : CellList → Stretch → Type 0
AreInOrder column stretch = (i j : ℕ) → stretch.from ≤ i → i ≤ j → j < stretch.to
    → rank (value_in column i) (value_in column j) ≢ Greater
