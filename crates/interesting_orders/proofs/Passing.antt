-- Labels changed place by place.
use Rattle.std.proofs.Common.{◌≡◌, ◌∙◌, refl, ℕ, ◌+◌, ◌<◌, ◌≤◌, List, length, get_or, set, true, false, nat_eq, inl, inr, arith}
use Rattle.std.specs.Prelude.{◌⊎◌}
use Rattle.std.proofs.lemmas.List.{get_or-set_same, get_or-set_other, length-set}
use Rattle.std.proofs.lemmas.Bool.Decides.{nat_tests}
use Rattle.std.proofs.lemmas.Bool.{cases_lt}
use Rattle.interesting_orders.specs.Labels.{merged}

-- the labels of the first places are as they are to be, and the others as they were
pub record Changed (goal : ℕ → ℕ → ℕ) (old new : List ℕ) (count : ℕ) : Type 0 where
  pub len : length new ≡ length old
  pub done : (j : ℕ) → j < count → get_or new j 0 ≡ goal j (get_or old j 0)
  pub left : (j : ℕ) → count ≤ j → get_or new j 0 ≡ get_or old j 0

pub begun : (goal : ℕ → ℕ → ℕ) (old : List ℕ) → Changed goal old old 0
begun goal old = record { len = refl; done = λ j h. absurd (omega (arith, h)); left = λ j h. refl }

module _ (goal : ℕ → ℕ → ℕ) (old new : List ℕ) (i : ℕ) (c : Changed goal old new i) where
  -- the next label is set
  pub set_next : (x : ℕ) → i < length new → x ≡ goal i (get_or old i 0) → Changed goal old (set new i x) (i + 1)
  set_next x h e = record {
    len = length-set new i x ∙ c.len;
    done = λ j l. by_place j (cases_lt j i) l;
    left = λ j l. get_or-set_other new i j x 0 (λ e'. absurd (omega (arith, l, e'))) ∙ c.left j (omega (arith, l));
  }
    where
      by_place : (j : ℕ) → (j < i) ⊎ (i ≤ j) → j < i + 1 → get_or (set new i x) j 0 ≡ goal j (get_or old j 0)
      by_place j (inl b) l = get_or-set_other new i j x 0 (λ e'. absurd (omega (arith, b, e'))) ∙ c.done j b
      by_place j (inr b) l =
          let here : j ≡ i = omega (arith, b, l) in
          rw here (get_or-set_same new i x 0 h ∙ e)

  -- or stays
  pub keep_next : get_or new i 0 ≡ goal i (get_or old i 0) → Changed goal old new (i + 1)
  keep_next e = record { len = c.len; done = λ j l. by_place j (cases_lt j i) l; left = λ j l. c.left j (omega (arith, l)) }
    where
      by_place : (j : ℕ) → (j < i) ⊎ (i ≤ j) → j < i + 1 → get_or new j 0 ≡ goal j (get_or old j 0)
      by_place j (inl b) l = c.done j b
      by_place j (inr b) l =
          let here : j ≡ i = omega (arith, b, l) in
          rw here e

pub is_from : (from to x : ℕ) → x ≡ from → to ≡ merged from to x
is_from from to x e = let t : nat_eq x from ≡ true = grind (arith, nat_tests, e) in rw t refl

pub is_other : (from to x : ℕ) → (x ≡ from → ⊥) → x ≡ merged from to x
is_other from to x n = let t : nat_eq x from ≡ false = grind (arith, nat_tests, n) in rw t refl
