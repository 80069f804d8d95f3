-- The rows of a table as an index gives them (own; Selinger et al. 1979, section 3: an index scan returns rows in key
-- value order, and may have a start and a stop key).
use Rattle.std.specs.Prelude.{ℕ, ◌+◌, Bool, true, false, not, ◌&&◌, List, [], ◌∷◌, filter, map, ⊤, IsTrue}
use Rattle.std.specs.Prelude.{IsPermutation, Option, option_map, unwrap_or}
use Rattle.std.specs.List.{AllByRecursion}
use Rattle.std.specs.Ordering.{nat_cmp, ordering_then, is_eq, is_lt, is_gt, is_le, is_ge}
use Rattle.std.specs.declared.cmp.Ordering.{Ordering}
use Rattle.definitions.specs.Value.{Value, compare, is_null}
use Rattle.definitions.specs.Key.{Key, key_rank}

-- an entry: the number of a row, from 0, and its key
pub record Entry : Type 0 where
  pub row : ℕ
  pub key : Key

-- the keys of a table's rows as entries, the first row being of this number
abbrev pub entries_from : ℕ → List Key → List Entry
entries_from row [] = []
entries_from row (key ∷ keys) = record { row = row; key = key } ∷ entries_from (row + 1) keys

-- entries go by their keys, and those of equal keys by their rows
abbrev pub comes_before : Entry → Entry → Bool
comes_before a b = is_lt (ordering_then (key_rank a.key b.key) (nat_cmp a.row b.row))

abbrev pub AreRising : List Entry → Type 0
AreRising [] = ⊤
AreRising (entry ∷ entries) = AllByRecursion (λ other. IsTrue (comes_before entry other)) entries × AreRising entries

-- the run of an index: an entry for each row, in that order
abbrev pub IsRun : List Key → List Entry → Type 0
IsRun keys run = IsPermutation (entries_from 0 keys) run × AreRising run

abbrev pub entry_rows : List Entry → List ℕ
entry_rows = map (λ (e : Entry). e.row)

abbrev pub keys_of : List Entry → List Key
keys_of = map (λ (e : Entry). e.key)

-- ---- parts of a run

-- a comparison is true; with a null it isn't (ISO/IEC 9075:1992, 8.2)
abbrev pub is_true_of : (Ordering → Bool) → Option Ordering → Bool
is_true_of test order = unwrap_or (option_map test order) false

-- where a range begins or ends, if it does
pub data Limit : Type 0 where
  Unlimited : Limit
  Inclusive : (value : Value) → Limit
  Exclusive : (value : Value) → Limit

abbrev pub is_from : Limit → Value → Bool
is_from Unlimited v = true
is_from (Inclusive low) v = is_true_of is_ge (compare v low)
is_from (Exclusive low) v = is_true_of is_gt (compare v low)

abbrev pub is_up_to : Limit → Value → Bool
is_up_to Unlimited v = true
is_up_to (Inclusive high) v = is_true_of is_le (compare v high)
is_up_to (Exclusive high) v = is_true_of is_lt (compare v high)

-- a key begins with values: each is equal to the key's own
abbrev pub begins_with : List Value → Key → Bool
begins_with [] key = true
begins_with (v ∷ vs) (k ∷ ks) = is_true_of is_eq (compare k v) && begins_with vs ks
begins_with (v ∷ vs) [] = false

-- a key begins with values, and its next one is not null and lies in a range
abbrev pub lies_in : List Value → Limit → Limit → Key → Bool
lies_in [] low high (k ∷ ks) = not (is_null k) && is_from low k && is_up_to high k
lies_in (v ∷ vs) low high (k ∷ ks) = is_true_of is_eq (compare k v) && lies_in vs low high ks
lies_in _ low high [] = false

-- of a run, the entries whose key begins with values; and those of a range behind such a beginning
abbrev pub equal_part : List Value → List Entry → List Entry
equal_part values = filter (λ (e : Entry). begins_with values e.key)

abbrev pub range_part : List Value → Limit → Limit → List Entry → List Entry
range_part values low high = filter (λ (e : Entry). lies_in values low high e.key)
