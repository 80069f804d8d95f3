-- Keys: what an index goes by.
use Rattle.std.specs.Prelude.{ℕ, Bool, not, ◌&&◌, List, [], ◌∷◌, slice_index_or, map, filter, ⊤, IsFalse}
use Rattle.std.specs.List.{list_any, AllByRecursion}
use Rattle.std.specs.Ordering.{is_eq, ordering_then}
use Rattle.std.specs.declared.cmp.Ordering.{Ordering}
use Rattle.std.specs.declared.cmp.Ordering.TheVariants.{Equal}
use Rattle.definitions.specs.Value.{Value, Null, rank, is_null}
use Rattle.definitions.specs.Table.{Row}

-- a key: the values of a row in the columns of an index (own)
abbrev pub Key : Type 0
Key = List Value

abbrev pub value_at : Row → ℕ → Value
value_at row column = slice_index_or row column Null

abbrev pub key_of : List ℕ → Row → Key
key_of columns row = map (value_at row) columns

-- keys go by the ranks of their values in turn; keys of one index are of one length (ISO/IEC 9075:1992, 13.1, general
-- rule 2)
abbrev pub key_rank : Key → Key → Ordering
key_rank (a ∷ as') (b ∷ bs) = ordering_then (rank a b) (key_rank as' bs)
key_rank _ _ = Equal

abbrev pub has_null : Key → Bool
has_null key = list_any is_null key

-- two keys are one: no value is null, and all are equal (8.9, unique predicate)
abbrev pub repeats : Key → Key → Bool
repeats a b = not (has_null a) && is_eq (key_rank a b)

-- a key is among those before it
abbrev pub comes_again : List Key → Key → Bool
comes_again before key = list_any (repeats key) before

-- no key comes twice
abbrev pub AreUnique : List Key → Type 0
AreUnique [] = ⊤
AreUnique (key ∷ keys) = AllByRecursion (λ other. IsFalse (repeats key other)) keys × AreUnique keys

-- the keys without a null
abbrev pub full_keys : List Key → List Key
full_keys = filter (λ key. not (has_null key))

-- each key once
abbrev pub distinct_keys : List Key → List Key
distinct_keys [] = []
distinct_keys (key ∷ keys) = key ∷ filter (λ other. not (is_eq (key_rank key other))) (distinct_keys keys)
