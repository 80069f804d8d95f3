-- The places of those of a list that pass a test, as they are written one behind another.
use Rattle.std.proofs.Common.{◌≡◌, ◌∙◌, sym, ap, ℕ, zero, suc, ◌<◌, ◌≤◌, ◌+◌, List, [], ◌∷◌, ◌++◌, Bool, true, false, length, map, take, set, get_or, arith}
use Rattle.std.specs.Int.{from_bool}
use Rattle.std.specs.Prelude.{All, filter}
use Rattle.std.proofs.lemmas.List.{map-append, take-set-le, take_more, take_more_set}
use Rattle.std.proofs.lemmas.List.Elements.{All-append}
use Rattle.told_tests.proofs.KeptPlaces.{one_fails, one_passes}

pub at_most_one : (b : Bool) → from_bool b ≤ 1
at_most_one true = omega arith
at_most_one false = omega arith

only : {X : Type 0} (P : X → Type 0) (x : X) → P x → All P (x ∷ [])
only P x h zero d lt = h
only P x h (suc k) d lt = absurd (omega (arith, lt))

module _ {X : Type 0} (xs : List X) (place : ℕ) (d : X) (within : place < length xs) where
  -- what holds of one more
  pub holds_more : (P : X → Type 0) → P (get_or xs place d) → All P (take place xs) → All P (take (place + 1) xs)
  holds_more P here before = rw (take_more xs place d within) (All-append P (take place xs) (get_or xs place d ∷ []) before (only P (get_or xs place d) here))

  -- a place is written, and counted where the one that stands there passes
  module _ (places : List ℕ) (count : ℕ) (room : count < length places) where
    abbrev Inside : ℕ → Type 0
    Inside i = i < length xs

    pub inside_more : (passed : Bool) → All Inside (take count places) → All Inside (take (count + from_bool passed) (set places count place))
    inside_more true before = rw (take_more_set places count place room) (All-append Inside (take count places) (place ∷ []) before (only Inside place within))
    inside_more false before =
        let none : count + from_bool false ≡ count = omega arith in
        rw (none, take-set-le count places count place (omega arith)) before

    pub passing_more : (p : X → Bool) (passed : Bool) → passed ≡ p (get_or xs place d) → map (λ i. get_or xs i d) (take count places) ≡ filter p (take place xs)
        → map (λ i. get_or xs i d) (take (count + from_bool passed) (set places count place)) ≡ filter p (take (place + 1) xs)
    passing_more p true is before =
        let at = λ (i : ℕ). get_or xs i d in
        ap (map at) (take_more_set places count place room) ∙ map-append at (take count places) (place ∷ []) ∙ ap (λ ys. ys ++ get_or xs place d ∷ []) before
        ∙ sym (one_passes {A = ℕ} p (λ x. []) xs place d within (sym is))
    passing_more p false is before =
        let none : count + from_bool false ≡ count = omega arith in
        let at = λ (i : ℕ). get_or xs i d in
        ap (λ n. map at (take n (set places count place))) none ∙ ap (map at) (take-set-le count places count place (omega arith)) ∙ before
        ∙ sym (one_fails {A = ℕ} p (λ x. []) xs place d within (sym is))
