-- Elements of a mapped list.
use Rattle.std.proofs.Common.{ℕ, zero, suc, ◌≡◌, ◌<◌, List, [], ◌∷◌, length, map, get_or, refl, arith}
use Rattle.std.specs.Prelude.{Contains}
use Rattle.definitions.proofs.PlanTheory.Elements.{later, first_is}

module _ {X Y : Type 0} (f : X → Y) where
  pub at_place : (xs : List X) (d : X) (i : ℕ) → i < length xs → Contains (map f xs) (f (get_or xs i d))
  at_place [] d i lt = absurd (omega arith)
  at_place (x ∷ xs) d zero lt = first_is (f x) (map f xs) (f x) refl
  at_place (x ∷ xs) d (suc i) lt = later (f x) (map f xs) _ (at_place xs d i (omega arith))

  -- an element of a mapped list is that of an element, whose place is i
  pub place_of : (xs : List X) (y : Y) → Contains (map f xs) y → (x : X) × (i : ℕ) × (i < length xs) × (f (get_or xs i x) ≡ y)
  place_of [] y (i, lt, is) = absurd (omega arith)
  place_of (x ∷ xs) y (zero, lt, is) = (x, 0, omega arith, is)
  place_of (x ∷ xs) y (suc i, lt, is) = let r = place_of xs y (i, omega arith, is) in (r.0, suc (r.1), omega (arith, r.2), r.3)
