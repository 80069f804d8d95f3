-- Two labels made one.
use Rattle.std.proofs.Common.{◌≡◌, ◌∙◌, refl, sym, ap, ℕ, ◌<◌, List, true, false, Bool, nat_eq, arith}
use Rattle.std.specs.Prelude.{◌⊎◌, if◌then◌else◌, length}
use Rattle.std.proofs.Common.{inl, inr}
use Rattle.std.proofs.lemmas.Bool.Decides.{nat_tests}
use Rattle.definitions.specs.Plans.TableSet.{TableSet}
use Rattle.definitions.specs.Plans.Order as o
use Rattle.definitions.specs.Plans.Space.{Space}
use Rattle.definitions.specs.Plans.ColumnClass.{SameClass}
use Rattle.definitions.proofs.PlanTheory.Orders.{same_trans, same_turned}
use Rattle.interesting_orders.specs.Labels.{merged, label_at, column_at, AreSound, IsBetween, Joins}
use Rattle.interesting_orders.specs.declared.equivalence_classes.Equality.{Equality}

by_test : (from to x : ℕ) (b : Bool) → nat_eq x from ≡ b → ((x ≡ from) × ((if b then to else x) ≡ to)) ⊎ ((if b then to else x) ≡ x)
by_test from to x true e = inl (grind (arith, nat_tests, e), refl)
by_test from to x false e = inr refl

-- a label is replaced or stays
cases : (from to x : ℕ) → ((x ≡ from) × (merged from to x ≡ to)) ⊎ (merged from to x ≡ x)
cases from to x = by_test from to x (nat_eq x from) refl

-- what is relabelled, place by place
abbrev pub IsMerged : ℕ → List ℕ → List ℕ → (from to : ℕ) → Type 0
IsMerged count old new from to = (i : ℕ) → i < count → label_at new i ≡ merged from to (label_at old i)

module _ (tables : TableSet) (columns : List o.BlockColumn) (old new : List ℕ) (l r : ℕ)
    (hl : l < length columns) (hr : r < length columns) (m : IsMerged (length columns) old new (label_at old r) (label_at old l)) where
  pub sound_kept : (space : Space) → SameClass space tables (column_at columns l) (column_at columns r) → AreSound space tables columns old → AreSound space tables columns new
  sound_kept space same sound i j hi hj e = by_cases (cases (label_at old r) (label_at old l) (label_at old i)) (cases (label_at old r) (label_at old l) (label_at old j))
    where
      by_cases : ((label_at old i ≡ label_at old r) × (merged (label_at old r) (label_at old l) (label_at old i) ≡ label_at old l)) ⊎ (merged (label_at old r) (label_at old l) (label_at old i) ≡ label_at old i)
          → ((label_at old j ≡ label_at old r) × (merged (label_at old r) (label_at old l) (label_at old j) ≡ label_at old l)) ⊎ (merged (label_at old r) (label_at old l) (label_at old j) ≡ label_at old j)
          → SameClass space tables (column_at columns i) (column_at columns j)
      by_cases (inl (x, p)) (inl (y, q)) = sound i j hi hj (x ∙ sym y)
      by_cases (inl (x, p)) (inr q) =
          let near = sound l j hl hj (sym p ∙ sym (m i hi) ∙ e ∙ m j hj ∙ q) in
          same_trans space tables _ _ _ (sound i r hi hr x) (same_trans space tables _ _ _ (same_turned space tables _ _ same) near)
      by_cases (inr p) (inl (y, q)) = same_trans space tables _ _ _ (sound i l hi hl (sym p ∙ sym (m i hi) ∙ e ∙ m j hj ∙ q)) (same_trans space tables _ _ _ same (sound r j hr hj (sym y)))
      by_cases (inr p) (inr q) = sound i j hi hj (sym p ∙ sym (m i hi) ∙ e ∙ m j hj ∙ q)

  -- what was joined stays joined
  pub joins_kept : (e : Equality) → IsBetween (length columns) e → Joins tables columns old e → Joins tables columns new e
  joins_kept e b joins hx hy = m e.left b.0 ∙ ap (merged (label_at old r) (label_at old l)) (joins hx hy) ∙ sym (m e.right b.1)

  -- and the two are joined
  to_left : (x : ℕ) → merged x (label_at old l) x ≡ label_at old l
  to_left x = let e : nat_eq x x ≡ true = grind (arith, nat_tests) in rw e refl

  left_stays : merged (label_at old r) (label_at old l) (label_at old l) ≡ label_at old l
  left_stays = by_case (cases (label_at old r) (label_at old l) (label_at old l))
    where
      by_case : ((label_at old l ≡ label_at old r) × (merged (label_at old r) (label_at old l) (label_at old l) ≡ label_at old l)) ⊎ (merged (label_at old r) (label_at old l) (label_at old l) ≡ label_at old l)
          → merged (label_at old r) (label_at old l) (label_at old l) ≡ label_at old l
      by_case (inl (x, p)) = p
      by_case (inr p) = p

  pub joined_now : label_at new l ≡ label_at new r
  joined_now = m l hl ∙ left_stays ∙ sym (to_left (label_at old r)) ∙ sym (m r hr)
