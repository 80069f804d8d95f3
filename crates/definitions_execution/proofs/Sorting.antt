-- Lists the other way round, and the sort: its members, each once, in order.
use Rattle.definitions_execution.specs.Lists.{In, Rises, Differ, put_in, sorted_by}
use Rattle.definitions_execution.proofs.Members.{in_left, in_right, in_either, rises_append}
use Rattle.std.proofs.Common.{sym, ◌∙◌, subst, ◌≡◌, ◌⊎◌, inl, inr, List, [], ◌∷◌, reverse, Bool, true, false, cond, refl, rules}
use mathlib.Core.List.{reverse-cons}

-- ---- the other way round

module _ {X : Type 0} where
  pub in_reverse : (x : X) (xs : List X) → In x xs → In x (reverse xs)
  in_reverse x [] h = absurd h
  in_reverse x (y ∷ ys) (inl e) = rw (reverse-cons y ys) (in_right x (reverse ys) (y ∷ []) (inl e))
  in_reverse x (y ∷ ys) (inr h) = rw (reverse-cons y ys) (in_left x (reverse ys) (y ∷ []) (in_reverse x ys h))

  pub from_reverse : (x : X) (xs : List X) → In x (reverse xs) → In x xs
  from_reverse x [] h = absurd (search (rules, h))
  from_reverse x (y ∷ ys) h = of_part (in_either x (reverse ys) (y ∷ []) (rw (reverse-cons y ys) at h)) (λ i. from_reverse x ys i)
    where
      of_part : In x (reverse ys) ⊎ In x (y ∷ []) → (In x (reverse ys) → In x ys) → In x (y ∷ ys)
      of_part (inl i) rest = inr (rest i)
      of_part (inr (inl e)) rest = inl e
      of_part (inr (inr e)) rest = absurd e

  pub rises_reverse : (R Q : X → X → Type 0) (xs : List X) → ((x y : X) → R x y → Q y x) → Rises R xs → Rises Q (reverse xs)
  rises_reverse R Q [] turn h = tt
  rises_reverse R Q (x ∷ xs) turn h = rw (reverse-cons x xs) (rises_append Q (reverse xs) (x ∷ []) (rises_reverse R Q xs turn h.1) ((λ y i. absurd i), tt) (λ a b i j. last a b i j))
    where
      last : (a b : X) → In a (reverse xs) → In b (x ∷ []) → Q a b
      last a b i (inl e) = subst (λ w. Q a w) e (turn x a (h.0 a (from_reverse a xs i)))
      last a b i (inr e) = absurd e

-- ---- sorting

module _ {X : Type 0} (le : X → X → Bool) where
  pub from_put : (x y : X) (ys : List X) → In y (put_in le x ys) → (x ≡ y) ⊎ In y ys
  from_put x y [] h = h
  from_put x y (z ∷ zs) h = by_test (le x z) h (λ i. from_put x y zs i)
    where
      later : (x ≡ y) ⊎ In y zs → (x ≡ y) ⊎ In y (z ∷ zs)
      later (inl e) = inl e
      later (inr i) = inr (inr i)

      by_test : (b : Bool) → In y (cond b (x ∷ z ∷ zs) (z ∷ put_in le x zs)) → (In y (put_in le x zs) → (x ≡ y) ⊎ In y zs) → (x ≡ y) ⊎ In y (z ∷ zs)
      by_test true h rest = h
      by_test false (inl e) rest = inr (inl e)
      by_test false (inr i) rest = later (rest i)

  pub in_put : (x y : X) (ys : List X) → (x ≡ y) ⊎ In y ys → In y (put_in le x ys)
  in_put x y [] h = h
  in_put x y (z ∷ zs) h = by_test (le x z) h (λ i. in_put x y zs i)
    where
      by_test : (b : Bool) → (x ≡ y) ⊎ In y (z ∷ zs) → ((x ≡ y) ⊎ In y zs → In y (put_in le x zs)) → In y (cond b (x ∷ z ∷ zs) (z ∷ put_in le x zs))
      by_test true h rest = h
      by_test false (inl e) rest = inr (rest (inl e))
      by_test false (inr (inl e)) rest = inl e
      by_test false (inr (inr i)) rest = inr (rest (inr i))

  pub from_sort : (y : X) (xs : List X) → In y (sorted_by le xs) → In y xs
  from_sort y [] h = h
  from_sort y (x ∷ xs) h = of_put (from_put x y (sorted_by le xs) h) (λ i. from_sort y xs i)
    where
      of_put : (x ≡ y) ⊎ In y (sorted_by le xs) → (In y (sorted_by le xs) → In y xs) → In y (x ∷ xs)
      of_put (inl e) rest = inl e
      of_put (inr i) rest = inr (rest i)

  pub in_sort : (y : X) (xs : List X) → In y xs → In y (sorted_by le xs)
  in_sort y [] h = h
  in_sort y (x ∷ xs) (inl e) = in_put x y (sorted_by le xs) (inl e)
  in_sort y (x ∷ xs) (inr i) = in_put x y (sorted_by le xs) (inr (in_sort y xs i))

  put_distinct : (x : X) (ys : List X) → ((y : X) → In y ys → Differ x y) → Rises Differ ys → Rises Differ (put_in le x ys)
  put_distinct x [] ne h = (ne, h)
  put_distinct x (z ∷ zs) ne h = by_test (le x z) (put_distinct x zs (λ y i. ne y (inr i)) h.1)
    where
      other : (y : X) → (x ≡ y) ⊎ In y zs → Differ z y
      other y (inl e) f = ne z (inl refl) (e ∙ sym f)
      other y (inr i) f = h.0 y i f

      by_test : (b : Bool) → Rises Differ (put_in le x zs) → Rises Differ (cond b (x ∷ z ∷ zs) (z ∷ put_in le x zs))
      by_test true rest = (ne, h)
      by_test false rest = ((λ y i. other y (from_put x y zs i)), rest)

  pub sort_distinct : (xs : List X) → Rises Differ xs → Rises Differ (sorted_by le xs)
  sort_distinct [] h = tt
  sort_distinct (x ∷ xs) h = put_distinct x (sorted_by le xs) (λ y i. h.0 y (from_sort y xs i)) (sort_distinct xs h.1)

  module _ (R : X → X → Type 0) (yes : (x y : X) → le x y ≡ true → R x y) (no' : (x y : X) → le x y ≡ false → R y x) (on : (x y z : X) → R x y → R y z → R x z) where
    put_sorted : (x : X) (ys : List X) → Rises R ys → Rises R (put_in le x ys)
    put_sorted x [] h = ((λ y i. absurd i), tt)
    put_sorted x (z ∷ zs) h = by_test (le x z) refl (put_sorted x zs h.1)
      where
        after : R x z → (y : X) → In y (z ∷ zs) → R x y
        after r y (inl e) = subst (λ w. R x w) e r
        after r y (inr i) = on x z y r (h.0 y i)

        other : R z x → (y : X) → (x ≡ y) ⊎ In y zs → R z y
        other r y (inl e) = subst (λ w. R z w) e r
        other r y (inr i) = h.0 y i

        by_test : (b : Bool) → le x z ≡ b → Rises R (put_in le x zs) → Rises R (cond b (x ∷ z ∷ zs) (z ∷ put_in le x zs))
        by_test true e rest = (after (yes x z e), h)
        by_test false e rest = ((λ y i. other (no' x z e) y (from_put x y zs i)), rest)

    pub sort_sorted : (xs : List X) → Rises R (sorted_by le xs)
    sort_sorted [] = tt
    sort_sorted (x ∷ xs) = put_sorted x (sorted_by le xs) (sort_sorted xs)
