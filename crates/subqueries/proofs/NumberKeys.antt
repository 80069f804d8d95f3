-- Keys that rank as values do are parted where the values are.
use Rattle.std.proofs.Common.{◌≡◌, ◌∙◌, sym, ap, ℕ, ◌+◌, ◌<◌, ◌≤◌, ◌⊎◌, inl, inr, List, [], ◌∷◌, ◌++◌, Bool, true, false, length, get_or, arith}
use Rattle.std.specs.Prelude.{ℤ, pos}
use Rattle.std.specs.List.Sorted.{IsPartitionedBy, IsPartitionPoint}
use Rattle.std.specs.Ordering.{int_cmp}
use Rattle.std.specs.declared.cmp.Ordering.{Ordering}
use Rattle.std.proofs.lemmas.Bool.{cases_lt}
use Rattle.std.proofs.lemmas.List.{get_or_append_left, length_push}
use Rattle.std.proofs.Math.Seq.{get_or-append_seam}
use Rattle.definitions.specs.Value.{Value, rank}
use Rattle.sqlvalue.specs.Owned.{owned_value}
use Rattle.sqlvalue.specs.declared.owned_value.OwnedValue.{OwnedValue}
use Rattle.sqlvalue.specs.declared.owned_value.OwnedValue.TheVariants as own
use Rattle.sqlvalue.specs.NumberKeys.{HasNumberKey}
use Rattle.sqlvalue.proofs.NumberKeys.{number_keys_rank}
use Rattle.subqueries.specs.NumberKeys.{RankByKeys, AreKeys}

-- where values end that a test of their rank passes, their keys end that pass it
module _ (test : Ordering → Bool) (scale : ℕ) (v : Value) (key : ℤ) (has : HasNumberKey scale v key) (xs : List OwnedValue) (keys : List ℤ) (are : AreKeys scale xs keys) where
  abbrev Passes : OwnedValue → Bool
  Passes x = test (rank (owned_value x) v)

  abbrev KeyPasses : ℤ → Bool
  KeyPasses k = test (int_cmp k key)

  same_at : (i : ℕ) (x : OwnedValue) (k : ℤ) → i < length xs → Passes (get_or xs i x) ≡ KeyPasses (get_or keys i k)
  same_at i x k h = ap test (are.1 i x k v key h has)

  pub keys_parted : IsPartitionedBy Passes xs → IsPartitionedBy KeyPasses keys
  keys_parted parted i j d le lt is =
      let within : j < length xs = omega (arith, lt, are.0) in
      let first : i < length xs = omega (arith, le, within) in
      sym (same_at i own.Null d first) ∙ parted i j own.Null le within (same_at j own.Null d within ∙ is)

  pub values_parted : (place : ℕ) → place ≤ length keys → IsPartitionPoint (λ k. KeyPasses k ≡ true) (λ k. KeyPasses k ≡ false) keys place → IsPartitionPoint (λ x. Passes x ≡ true) (λ x. Passes x ≡ false) xs place
  values_parted place within point = (
    λ i x low high. same_at i x (pos 0) (omega (arith, high, within, are.0)) ∙ point.0 i (pos 0) low high,
    λ i x low high. same_at i x (pos 0) high ∙ point.1 i (pos 0) low (omega (arith, high, are.0)),
  )

-- ---- one key more

abbrev pub Keyed : ℕ → List OwnedValue → ℕ → List ℤ → Type 0
Keyed scale values count keys = (length keys ≡ count) × RankByKeys count scale values keys

pub one_more_key : (scale : ℕ) (values : List OwnedValue) (count : ℕ) (keys : List ℤ) (key : ℤ) → ((x : OwnedValue) → HasNumberKey scale (owned_value (get_or values count x)) key) → Keyed scale values count keys
    → Keyed scale values (count + 1) (keys ++ key ∷ [])
one_more_key scale values count keys key own (size, each) = (length_push keys key ∙ ap (λ n. n + 1) size, λ i x k other key' lt has. of_place i x k other key' lt has (cases_lt i count))
  where
    of_place : (i : ℕ) (x : OwnedValue) (k : ℤ) (other : Value) (key' : ℤ) → i < count + 1 → HasNumberKey scale other key' → (i < count) ⊎ (count ≤ i)
        → rank (owned_value (get_or values i x)) other ≡ int_cmp (get_or (keys ++ key ∷ []) i k) key'
    of_place i x k other key' lt has (inl less) = rw (get_or_append_left keys (key ∷ []) k i (omega (arith, less, size))) (each i x k other key' less has)
    of_place i x k other key' lt has (inr ge) =
        let here : count ≡ i = omega (arith, lt, ge) in
        let seam : get_or (keys ++ key ∷ []) count k ≡ key = rw size at (get_or-append_seam keys key [] k) in
        rw (← here, seam) (number_keys_rank scale (owned_value (get_or values count x)) other key key' (own x) has)
