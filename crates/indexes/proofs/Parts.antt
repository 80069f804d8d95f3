-- The entries that pass a test stand together where their places do.
use Rattle.std.proofs.Common.{◌≡◌, ◌∙◌, refl, sym, ap, ℕ, zero, suc, ◌-◌, ◌<◌, ◌≤◌, List, [], ◌∷◌, Bool, true, false, length, take, drop, arith}
use Rattle.std.specs.Prelude.{◌&&◌, not, nat_lt, filter}
use Rattle.std.proofs.lemmas.Bool.Decides.{nat_tests}
use Rattle.definitions.specs.Key.{Key}
use Rattle.definitions.specs.IndexRun.{Entry, entry_rows}
use Rattle.indexes.specs.Stretches.{key_at}

take_none : {X : Type 0} (xs : List X) → take 0 xs ≡ []
take_none [] = refl
take_none (x ∷ xs) = refl

module _ (test : Key → Bool) where
  abbrev passing : List Entry → List Entry
  passing = filter (λ (e : Entry). test e.key)

  skipped : (e : Entry) (es : List Entry) → test e.key ≡ false → passing (e ∷ es) ≡ passing es
  skipped e es h = rw h refl

  kept : (e : Entry) (es : List Entry) → test e.key ≡ true → passing (e ∷ es) ≡ e ∷ passing es
  kept e es h = rw h refl

  nowhere : (es : List Entry) → ((i : ℕ) → i < length es → test (key_at es i) ≡ false) → passing es ≡ []
  nowhere [] h = refl
  nowhere (e ∷ es) h = skipped e es (h 0 (omega arith)) ∙ nowhere es (λ i l. h (suc i) (omega (arith, l)))

  pub part_is : (es : List Entry) (from to : ℕ) → from ≤ to → to ≤ length es → ((i : ℕ) → i < length es → test (key_at es i) ≡ (not (nat_lt i from) && nat_lt i to))
      → entry_rows (passing es) ≡ take (to - from) (drop from (entry_rows es))
  part_is [] zero zero f t h = refl
  part_is [] from (suc to) f t h = absurd (omega (arith, t))
  part_is [] (suc from) zero f t h = absurd (omega (arith, f))
  part_is (e ∷ es) (suc from) zero f t h = absurd (omega (arith, f))
  part_is (e ∷ es) zero zero f t h =
      let n : passing (e ∷ es) ≡ [] = nowhere (e ∷ es) (λ i l. h i l ∙ grind (arith, nat_tests)) in
      ap entry_rows n ∙ sym (take_none (entry_rows (e ∷ es)))
  part_is (e ∷ es) zero (suc to) f t h =
      let first : test e.key ≡ true = h 0 (omega arith) ∙ grind (arith, nat_tests) in
      let m : suc to - 0 ≡ suc to = omega arith in
      let k : to - 0 ≡ to = omega arith in
      ap entry_rows (kept e es first) ∙ ap (λ rs. e.row ∷ rs) (part_is es zero to (omega arith) (omega (arith, t)) (λ i l. h (suc i) (omega (arith, l)) ∙ grind (arith, nat_tests)) ∙ ap (λ x. take x (entry_rows es)) k) ∙ ap (λ x. take x (entry_rows (e ∷ es))) (sym m)
  part_is (e ∷ es) (suc from) (suc to) f t h =
      let first : test e.key ≡ false = h 0 (omega arith) ∙ grind (arith, nat_tests) in
      let m : suc to - suc from ≡ to - from = omega arith in
      ap entry_rows (skipped e es first) ∙ part_is es from to (omega (arith, f)) (omega (arith, t)) (λ i l. h (suc i) (omega (arith, l)) ∙ grind (arith, nat_tests)) ∙ ap (λ x. take x (drop from (entry_rows es))) (sym m)
