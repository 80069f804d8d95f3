-- The keys of rows have one run.
use Rattle.std.proofs.Common.{◌≡◌, ◌∙◌, refl, sym, ap₂, ◌⊎◌, inl, inr, List, [], ◌∷◌, true}
use Rattle.std.specs.Prelude.{Contains, IsTrue}
use Rattle.std.specs.Ordering.{nat_cmp, ordering_then, ordering_reverse, is_lt}
use Rattle.std.specs.declared.cmp.Ordering.{Ordering}
use Rattle.std.specs.declared.cmp.Ordering.TheVariants.{Less, Equal, Greater}
use Rattle.std.proofs.lemmas.Bool.{false≢true}
use Rattle.std.proofs.lemmas.Cmp.{nat_cmp_total}
use Rattle.std.proofs.lemmas.List.Elements.{All-from_recursion, All-contains}
use Rattle.std.proofs.lemmas.List.Sorted.{Contains-permutation, IsPermutation-sym}
use Rattle.definitions.specs.Value.{rank}
use Rattle.definitions.specs.Key.{Key, key_rank}
use Rattle.definitions.specs.IndexRun.{Entry, comes_before, AreRising, IsRun}
use Rattle.definitions.proofs.Ranking.{rank_total}
use Rattle.definitions.proofs.PlanTheory.Elements.{first_is, later, first_or_rest, not_in_empty}

then_turned : (a b : Ordering) → ordering_then (ordering_reverse a) (ordering_reverse b) ≡ ordering_reverse (ordering_then a b)
then_turned Less b = refl
then_turned Equal b = refl
then_turned Greater b = refl

key_turned : (a b : Key) → key_rank a b ≡ ordering_reverse (key_rank b a)
key_turned [] [] = refl
key_turned [] (b ∷ bs) = refl
key_turned (a ∷ as') [] = refl
key_turned (a ∷ as') (b ∷ bs) = ap₂ ordering_then (rank_total.antisymm a b) (key_turned as' bs) ∙ then_turned (rank b a) (key_rank bs as')

not_less_twice : (o p : Ordering) → o ≡ ordering_reverse p → is_lt o ≡ true → is_lt p ≡ true → ⊥
not_less_twice Less Less e h l = absurd cc
not_less_twice Less Equal e h l = false≢true l
not_less_twice Less Greater e h l = false≢true l
not_less_twice Equal p e h l = false≢true h
not_less_twice Greater p e h l = false≢true h

not_both : (a b : Entry) → comes_before a b ≡ true → comes_before b a ≡ true → ⊥
not_both a b = not_less_twice (ordering_then (key_rank a.key b.key) (nat_cmp a.row b.row)) (ordering_then (key_rank b.key a.key) (nat_cmp b.row a.row))
    (ap₂ ordering_then (key_turned a.key b.key) (nat_cmp_total.antisymm a.row b.row) ∙ then_turned (key_rank b.key a.key) (nat_cmp b.row a.row))

-- the first of rising entries comes before all others
before_rest : (x : Entry) (xs : List Entry) (y : Entry) → AreRising (x ∷ xs) → Contains xs y → comes_before x y ≡ true
before_rest x xs y rising there = All-contains (λ z. IsTrue (comes_before x z)) xs y (All-from_recursion (λ z. IsTrue (comes_before x z)) xs rising.0) there

-- rising lists of the same entries begin alike
same_first : (x y : Entry) (xs ys : List Entry) → AreRising (x ∷ xs) → AreRising (y ∷ ys) → Contains (y ∷ ys) x → Contains (x ∷ xs) y → x ≡ y
same_first x y xs ys rx ry hx hy = of_cases (first_or_rest y ys x hx) (first_or_rest x xs y hy)
  where
    of_cases : (y ≡ x) ⊎ Contains ys x → (x ≡ y) ⊎ Contains xs y → x ≡ y
    of_cases (inl e) other = sym e
    of_cases (inr in_ys) (inl e) = e
    of_cases (inr in_ys) (inr in_xs) = absurd (not_both x y (before_rest x xs y rx in_xs) (before_rest y ys x ry in_ys))

same_rest : (x y : Entry) (xs ys : List Entry) → x ≡ y → AreRising (x ∷ xs) → ((z : Entry) → Contains (x ∷ xs) z → Contains (y ∷ ys) z) → (z : Entry) → Contains xs z → Contains ys z
same_rest x y xs ys e rx sub z there = of_cases (first_or_rest y ys z (sub z (later x xs z there)))
  where
    of_cases : (y ≡ z) ⊎ Contains ys z → Contains ys z
    of_cases (inr r) = r
    of_cases (inl f) = let itself : comes_before x x ≡ true = rw (sym (e ∙ f)) at (before_rest x xs z rx there) in absurd (not_both x x itself itself)

rising_once : (xs ys : List Entry) → AreRising xs → AreRising ys → ((z : Entry) → Contains xs z → Contains ys z) → ((z : Entry) → Contains ys z → Contains xs z) → xs ≡ ys
rising_once [] [] rx ry sub sup = refl
rising_once [] (y ∷ ys) rx ry sub sup = absurd (not_in_empty y (sup y (first_is y ys y refl)))
rising_once (x ∷ xs) [] rx ry sub sup = absurd (not_in_empty x (sub x (first_is x xs x refl)))
rising_once (x ∷ xs) (y ∷ ys) rx ry sub sup =
    let e : x ≡ y = same_first x y xs ys rx ry (sub x (first_is x xs x refl)) (sup y (first_is y ys y refl)) in
    ap₂ ◌∷◌ e (rising_once xs ys rx.1 ry.1 (same_rest x y xs ys e rx sub) (same_rest y x ys xs (sym e) ry sup))

pub run_once : (keys : List Key) (a b : List Entry) → IsRun keys a → IsRun keys b → a ≡ b
run_once keys a b (pa, ra) (pb, rb) = rising_once a b ra rb
    (λ z there. Contains-permutation _ b z pb (Contains-permutation a _ z (IsPermutation-sym _ a pa) there))
    (λ z there. Contains-permutation _ a z pa (Contains-permutation b _ z (IsPermutation-sym _ b pb) there))
