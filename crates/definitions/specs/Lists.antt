-- Words on lists.
use Rattle.std.specs.Prelude.{Bool, not, List, [], ◌∷◌, ◌⊎◌, filter}

-- some element has a property
abbrev pub AnyOf : {X : Type 0} → (X → Type 0) → List X → Type 0
AnyOf P [] = ⊥
AnyOf P (x ∷ xs) = P x ⊎ AnyOf P xs

-- a list without the elements that are the same as an earlier one
abbrev pub without_repeats : {X : Type 0} → (X → X → Bool) → List X → List X
without_repeats same [] = []
without_repeats same (x ∷ xs) = x ∷ filter (λ y. not (same x y)) (without_repeats same xs)
