-- Values and the whole numbers beside them, which rank as they do.
use Rattle.std.specs.Prelude.{ℕ, ℤ, ◌<◌, ◌≡◌, List, get_or, length}
use Rattle.std.specs.Ordering.{int_cmp}
use Rattle.definitions.specs.Value.{Value, rank}
use Rattle.sqlvalue.specs.Owned.{owned_value}
use Rattle.sqlvalue.specs.declared.owned_value.OwnedValue.{OwnedValue}
use Rattle.sqlvalue.specs.NumberKeys.{HasNumberKey}

-- the first so many values rank against a null or a number of the scale as their keys do against its key
abbrev pub RankByKeys : ℕ → ℕ → List OwnedValue → List ℤ → Type 0
RankByKeys count scale values keys = (i : ℕ) (value : OwnedValue) (key : ℤ) (other : Value) (k : ℤ) → i < count
    → HasNumberKey scale other k
    → rank (owned_value (get_or values i value)) other ≡ int_cmp (get_or keys i key) k

-- each value has such a key
abbrev pub AreKeys : ℕ → List OwnedValue → List ℤ → Type 0
AreKeys scale values keys = (length keys ≡ length values) × RankByKeys (length values) scale values keys
