-- Whatever a query means, something may be told of it: one of its exceptions, or its rows in an order that its keys allow.
use Rattle.std.proofs.Common.{◌≡◌, ◌∙◌, refl, sym, ap, ap₂, ℕ, zero, suc, ◌+◌, ◌<◌, List, [], ◌∷◌, Bool, true, false, cond, length, get_or, arith}
use Rattle.std.specs.Prelude.{IsPermutation, IsSorted}
use Rattle.std.specs.Ordering.{ordering_then, ordering_reverse, is_lt}
use Rattle.std.specs.declared.cmp.Ordering.{Ordering}
use Rattle.std.specs.declared.cmp.Ordering.TheVariants.{Less, Equal, Greater}
use Rattle.std.proofs.lemmas.List.Sorted.{IsPermutation-refl, IsPermutation-trans, IsPermutation-cons, IsPermutation-swap}
use Rattle.definitions.specs.Value.{Null, rank}
use Rattle.definitions.specs.Table.{Row}
use Rattle.definitions.specs.Arithmetic.{Is, Raises}
use Rattle.definitions.specs.Queries.BoundBlock.{OrderKey}
use Rattle.definitions.specs.Queries.Outcomes.{Rows, Exception, directed, row_order}
use Rattle.definitions.specs.Queries.Laws.{SomeOutcomeIsAllowed}
use Rattle.definitions.proofs.Ranking.{rank_total}

-- ---- of two rows either may stand first

then_reversed : (a b : Ordering) → ordering_reverse (ordering_then a b) ≡ ordering_then (ordering_reverse a) (ordering_reverse b)
then_reversed Less b = refl
then_reversed Equal b = refl
then_reversed Greater b = refl

directed_reversed : (d : Bool) (o : Ordering) → directed d (ordering_reverse o) ≡ ordering_reverse (directed d o)
directed_reversed true o = refl
directed_reversed false o = refl

row_antisymm : (keys : List OrderKey) (a b : Row) → row_order keys a b ≡ ordering_reverse (row_order keys b a)
row_antisymm [] a b = refl
row_antisymm (key ∷ keys) a b =
    let d = key.descending in
    let first : directed d (rank (get_or a key.item Null) (get_or b key.item Null)) ≡ ordering_reverse (directed d (rank (get_or b key.item Null) (get_or a key.item Null))) =
    ap (directed d) (rank_total.antisymm (get_or a key.item Null) (get_or b key.item Null)) ∙ directed_reversed d (rank (get_or b key.item Null) (get_or a key.item Null)) in
    ap₂ ordering_then first (row_antisymm keys a b) ∙ sym (then_reversed (directed d (rank (get_or b key.item Null) (get_or a key.item Null))) (row_order keys b a))

not_both : (o p : Ordering) → o ≡ ordering_reverse p → is_lt o ≡ true → is_lt p ≡ false
not_both o Less e h = let c : false ≡ true = ap is_lt (sym e) ∙ h in absurd cc
not_both o Equal e h = refl
not_both o Greater e h = refl

-- ---- rows in order

module _ (keys : List OrderKey) where
  abbrev before : Row → Row → Bool
  before a b = is_lt (row_order keys a b)

  abbrev put : Row → List Row → List Row
  put y [] = y ∷ []
  put y (x ∷ xs) = cond (before x y) (x ∷ put y xs) (y ∷ x ∷ xs)

  abbrev arranged : List Row → List Row
  arranged [] = []
  arranged (x ∷ xs) = put x (arranged xs)

  -- no row is before the one that it follows
  abbrev Follows : Row → List Row → Type 0
  Follows x [] = Unit {0}
  Follows x (y ∷ ys) = (before y x ≡ false) × Follows y ys

  abbrev Rises : List Row → Type 0
  Rises [] = Unit {0}
  Rises (x ∷ xs) = Follows x xs

  swapped : (x y : Row) (xs : List Row) → IsPermutation (y ∷ x ∷ xs) (x ∷ y ∷ xs)
  swapped x y xs = IsPermutation-swap (y ∷ x ∷ xs) (x ∷ y ∷ xs) 0 1 (omega arith) (omega arith) refl

  put_keeps : (y : Row) (xs : List Row) → IsPermutation (y ∷ xs) (put y xs)
  put_keeps y [] = IsPermutation-refl (y ∷ [])
  put_keeps y (x ∷ xs) = put_by (before x y) (put_keeps y xs)
    where
      put_by : (b : Bool) → IsPermutation (y ∷ xs) (put y xs) → IsPermutation (y ∷ x ∷ xs) (cond b (x ∷ put y xs) (y ∷ x ∷ xs))
      put_by true p = IsPermutation-trans (y ∷ x ∷ xs) (x ∷ y ∷ xs) (x ∷ put y xs) (swapped x y xs) (IsPermutation-cons x (y ∷ xs) (put y xs) p)
      put_by false p = IsPermutation-refl (y ∷ x ∷ xs)

  arranged_keeps : (xs : List Row) → IsPermutation xs (arranged xs)
  arranged_keeps [] = IsPermutation-refl []
  arranged_keeps (x ∷ xs) = IsPermutation-trans (x ∷ xs) (x ∷ arranged xs) (put x (arranged xs)) (IsPermutation-cons x xs (arranged xs) (arranged_keeps xs)) (put_keeps x (arranged xs))

  back : (x y : Row) → before x y ≡ true → before y x ≡ false
  back x y h = not_both (row_order keys x y) (row_order keys y x) (row_antisymm keys x y) h

  put_follows : (z y : Row) (xs : List Row) → before y z ≡ false → Follows z xs → Follows z (put y xs)
  put_follows z y [] h f = (h, tt)
  put_follows z y (x ∷ xs) h f = put_by (before x y) refl (λ g. put_follows x y xs g f.1)
    where
      put_by : (b : Bool) → before x y ≡ b → (before y x ≡ false → Follows x (put y xs)) → Follows z (cond b (x ∷ put y xs) (y ∷ x ∷ xs))
      put_by true e g = (f.0, g (back x y e))
      put_by false e g = (h, (e, f.1))

  put_rises : (y : Row) (xs : List Row) → Rises xs → Rises (put y xs)
  put_rises y [] r = tt
  put_rises y (x ∷ xs) r = put_by (before x y) refl
    where
      put_by : (b : Bool) → before x y ≡ b → Rises (cond b (x ∷ put y xs) (y ∷ x ∷ xs))
      put_by true e = put_follows x y xs (back x y e) r
      put_by false e = (e, r)

  arranged_rises : (xs : List Row) → Rises (arranged xs)
  arranged_rises [] = tt
  arranged_rises (x ∷ xs) = put_rises x (arranged xs) (arranged_rises xs)

  follows_at : (x : Row) (xs : List Row) → Follows x xs → (k : ℕ) (d : Row) → k < length xs → before (get_or xs k d) (get_or (x ∷ xs) k d) ≡ false
  follows_at x [] f k d h = absurd (omega (arith, h))
  follows_at x (y ∷ ys) f zero d h = f.0
  follows_at x (y ∷ ys) f (suc k) d h = follows_at y ys f.1 k d (omega (arith, h))

  rises_at : (xs : List Row) → Rises xs → (k : ℕ) (d : Row) → suc k < length xs → before (get_or xs (suc k) d) (get_or xs k d) ≡ false
  rises_at [] r k d h = absurd (omega (arith, h))
  rises_at (x ∷ xs) r k d h = follows_at x xs r k d (omega (arith, h))

  rises_sorted : (xs : List Row) → Rises xs → IsSorted (row_order keys) xs
  rises_sorted xs r k d low high =
      let n : suc k ≡ k + 1 = omega arith in
      ap (λ i. before (get_or xs i d) (get_or xs k d)) (sym n) ∙ rises_at xs r k d (omega (arith, high))

pub some_outcome_is_allowed : SomeOutcomeIsAllowed
some_outcome_is_allowed (Is bag) keys = (Rows (arranged keys bag), (arranged_keeps keys bag, rises_sorted keys (arranged keys bag) (arranged_rises keys bag)))
some_outcome_is_allowed (Raises r rs) keys = (Exception r, (0, omega arith, refl))
