-- What holds of keys and of the runs of indexes. Each is proved as the contract of a function that has no code.
use Rattle.std.specs.Prelude.{ℕ, ◌+◌, ◌≡◌, List, [], ◌∷◌, ◌++◌, length, if◌then◌else◌}
use Rattle.std.specs.List.{AllByRecursion}
use Rattle.std.specs.Ordering.{ordering_reverse, is_eq}
use Rattle.std.specs.declared.cmp.Ordering.TheVariants.{Less, Equal}
use Rattle.definitions.specs.Value.{Value, SqlType, HasType}
use Rattle.definitions.specs.Key.{Key, key_rank, full_keys, distinct_keys}
use Rattle.definitions.specs.IndexRun.{Entry, Limit, IsRun, keys_of, equal_part, range_part}

-- a key of types: a value of each
abbrev pub IsKeyOf : List SqlType → Key → Type 0
IsKeyOf [] [] = Unit {0}
IsKeyOf (type ∷ types) (value ∷ key) = HasType type value × IsKeyOf types key
IsKeyOf _ _ = ⊥

-- among keys of the same types, each is equal to itself; two the other way round rank the reverse; what is less than a
-- lesser key is less; and keys of equal rank stand alike to every other
pub record KeyRankIsTotalOrder : Type 0 where
  pub itself : (key : Key) → key_rank key key ≡ Equal
  pub turned : (a b : Key) → key_rank a b ≡ ordering_reverse (key_rank b a)
  pub chain : (types : List SqlType) (a b c : Key) → IsKeyOf types a → IsKeyOf types b → IsKeyOf types c
      → key_rank a b ≡ Less → key_rank b c ≡ Less → key_rank a c ≡ Less
  pub alike : (types : List SqlType) (a b c : Key) → IsKeyOf types a → IsKeyOf types b → IsKeyOf types c
      → key_rank a b ≡ Equal → key_rank a c ≡ key_rank b c

-- keys have one run
abbrev pub RunIsOne : Type 0
RunIsOne = (keys : List Key) (a b : List Entry) → IsRun keys a → IsRun keys b → a ≡ b

-- some entries stand together in a list, in its order
abbrev pub IsStretch : List Entry → List Entry → Type 0
IsStretch part whole = (front : List Entry) × (back : List Entry) × (whole ≡ front ++ part ++ back)

-- the entries of a run whose keys begin with values stand together
abbrev pub EqualPartIsStretch : Type 0
EqualPartIsStretch =
    (types : List SqlType) (keys : List Key) (run : List Entry) (values : List Value)
    → AllByRecursion (IsKeyOf types) keys → IsRun keys run → IsStretch (equal_part values run) run

-- and so do those of a range behind such a beginning
abbrev pub RangePartIsStretch : Type 0
RangePartIsStretch =
    (types : List SqlType) (keys : List Key) (run : List Entry) (values : List Value) (low high : Limit)
    → AllByRecursion (IsKeyOf types) keys → IsRun keys run → IsStretch (range_part values low high run) run

-- how many keys differ from the one before
abbrev pub changes : List Key → ℕ
changes [] = 0
changes (key ∷ []) = 1
changes (key ∷ next ∷ keys) = (if is_eq (key_rank key next) then 0 else 1) + changes (next ∷ keys)

-- the keys without a null, each counted once, are those that differ from the one before them in a run
abbrev pub KeysAreCountedAlongRun : Type 0
KeysAreCountedAlongRun =
    (types : List SqlType) (keys : List Key) (run : List Entry) → AllByRecursion (IsKeyOf types) keys → IsRun keys run
    → length (distinct_keys (full_keys (keys_of run))) ≡ changes (full_keys (keys_of run))
