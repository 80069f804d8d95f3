-- Elements of a heap, as what waits.
use Prim.Native.Nat.{zero}
use Rattle.std.proofs.Common.{suc, ◌≡◌, ◌∙◌, ℕ, ◌≤◌, ◌⊎◌, inl, inr, List, [], ◌∷◌, false, arith, refl, sym, ap, subst}
use Rattle.std.proofs.HeapSift.{at_most}
use Rattle.std.proofs.lemmas.List.Elements.{All-cons, All-nil}
use Rattle.std.proofs.lemmas.List.Sorted.{Contains-permutation, IsPermutation-sym}
use Rattle.std.specs.Prelude.{All, Contains, map}
use Rattle.std.specs.BinaryHeap.{IsUpperBound}
use Rattle.std.specs.List.Sorted.{IsPermutation}
use Rattle.std.specs.Ordering.{nat_cmp, ordering_then, is_lt}
use Rattle.std.specs.declared.cmp.Ordering.{Ordering}
use Rattle.std.specs.declared.cmp.Ordering.TheVariants.{Less, Equal, Greater}
use Rattle.std.specs.declared.cmp.Reverse.{Reverse}
use Rattle.join_dp.specs.Waiting.{Waiting, waiting_of, IsPut, IsTaken}

module _ {X Y : Type 0} (f : X → Y) where
  pub mapped : (xs : List X) (x : X) → Contains xs x → Contains (map f xs) (f x)
  mapped [] x (i, lt, is) = absurd (omega arith)
  mapped (y ∷ xs) x (zero, lt, is) = (zero, omega arith, ap f is)
  mapped (y ∷ xs) x (suc i, lt, is) = let r = mapped xs x (i, omega arith, is) in (suc r.0, omega (arith, r.1), r.2)

  pub unmapped : (xs : List X) (y : Y) → Contains (map f xs) y → (x : X) × Contains xs x × (f x ≡ y)
  unmapped [] y (i, lt, is) = absurd (omega arith)
  unmapped (x ∷ xs) y (zero, lt, is) = (x, (zero, omega arith, refl), is)
  unmapped (x ∷ xs) y (suc i, lt, is) = let r = unmapped xs y (i, omega arith, is) in (r.0, (suc r.1.0, omega (arith, r.1.1), r.1.2), r.2)

split : {X : Type 0} (x : X) (xs : List X) (y : X) → Contains (x ∷ xs) y → (x ≡ y) ⊎ Contains xs y
split x xs y (zero, lt, is) = inl is
split x xs y (suc i, lt, is) = inr (i, omega arith, is)

first_not_lt : (a b : Ordering) → is_lt (ordering_then a b) ≡ false → is_lt a ≡ false
first_not_lt Less b e = e
first_not_lt Equal b e = refl
first_not_lt Greater b e = e

least_of : (one : Reverse ℕ × ℕ) (xs : List (Reverse ℕ × ℕ)) → IsUpperBound (λ x y. ordering_then (nat_cmp y.0.0 x.0.0) (nat_cmp x.1 y.1)) one xs → All (λ (other : Waiting). one.0.0 ≤ other.0) (map waiting_of xs)
least_of one [] h = All-nil (λ (other : Waiting). one.0.0 ≤ other.0)
least_of one (y ∷ ys) h = All-cons (λ (other : Waiting). one.0.0 ≤ other.0) (waiting_of y) (map waiting_of ys) (at_most y.0.0 one.0.0 (first_not_lt _ _ h.0)) (least_of one ys h.1)

pub put : (old new : List (Reverse ℕ × ℕ)) (one : Reverse ℕ × ℕ) → IsPermutation (one ∷ old) new → IsPut (map waiting_of old) (waiting_of one) (map waiting_of new)
put old new one p = record {
  here = mapped waiting_of new one (Contains-permutation (one ∷ old) new one p (zero, omega arith, refl));
  kept = λ other there. of_old other (unmapped waiting_of old other there);
  no_other = λ other there. of_new other (unmapped waiting_of new other there);
}
  where
    of_old : (other : Waiting) → (x : Reverse ℕ × ℕ) × Contains old x × (waiting_of x ≡ other) → Contains (map waiting_of new) other
    of_old other (x, (i, lt, is), e) = subst (λ w. Contains (map waiting_of new) w) e (mapped waiting_of new x (Contains-permutation (one ∷ old) new x p (suc i, omega arith, is)))

    of_split : (other : Waiting) (x : Reverse ℕ × ℕ) → waiting_of x ≡ other → (one ≡ x) ⊎ Contains old x → (other ≡ waiting_of one) ⊎ Contains (map waiting_of old) other
    of_split other x e (inl is) = inl (sym e ∙ ap waiting_of (sym is))
    of_split other x e (inr there) = inr (subst (λ w. Contains (map waiting_of old) w) e (mapped waiting_of old x there))

    of_new : (other : Waiting) → (x : Reverse ℕ × ℕ) × Contains new x × (waiting_of x ≡ other) → (other ≡ waiting_of one) ⊎ Contains (map waiting_of old) other
    of_new other (x, there, e) = of_split other x e (split one old x (Contains-permutation new (one ∷ old) x (IsPermutation-sym (one ∷ old) new p) there))

pub taken : (old new : List (Reverse ℕ × ℕ)) (one : Reverse ℕ × ℕ) → IsPermutation old (one ∷ new)
    → IsUpperBound (λ x y. ordering_then (nat_cmp y.0.0 x.0.0) (nat_cmp x.1 y.1)) one old → IsTaken (map waiting_of old) (waiting_of one) (map waiting_of new)
taken old new one p bound = record {
  was = mapped waiting_of old one (Contains-permutation (one ∷ new) old one (IsPermutation-sym old (one ∷ new) p) (zero, omega arith, refl));
  least = least_of one old bound;
  others = λ other there. of_old other (unmapped waiting_of old other there);
  were = λ other there. of_new other (unmapped waiting_of new other there);
}
  where
    of_split : (other : Waiting) (x : Reverse ℕ × ℕ) → waiting_of x ≡ other → (one ≡ x) ⊎ Contains new x → (other ≡ waiting_of one) ⊎ Contains (map waiting_of new) other
    of_split other x e (inl is) = inl (sym e ∙ ap waiting_of (sym is))
    of_split other x e (inr there) = inr (subst (λ w. Contains (map waiting_of new) w) e (mapped waiting_of new x there))

    of_old : (other : Waiting) → (x : Reverse ℕ × ℕ) × Contains old x × (waiting_of x ≡ other) → (other ≡ waiting_of one) ⊎ Contains (map waiting_of new) other
    of_old other (x, there, e) = of_split other x e (split one new x (Contains-permutation old (one ∷ new) x p there))

    of_new : (other : Waiting) → (x : Reverse ℕ × ℕ) × Contains new x × (waiting_of x ≡ other) → Contains (map waiting_of old) other
    of_new other (x, (i, lt, is), e) = subst (λ w. Contains (map waiting_of old) w) e (mapped waiting_of old x (Contains-permutation (one ∷ new) old x (IsPermutation-sym old (one ∷ new) p) (suc i, omega arith, is)))
