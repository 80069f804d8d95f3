-- What is kept of lists that are read.
use Rattle.std.specs.Prelude.{ℕ, ◌<◌, ◌≤◌, ◌≡◌, ◌⊎◌, List, [], ◌∷◌, ◌++◌, length}

-- a further element is kept where no more are kept yet than are allowed, and else left out
abbrev pub IsKept : {A : Type 0} → (most : ℕ) → (before : List A) → A → (after : List A) → Type 0
IsKept most before element after =
    ((length before ≤ most) × (after ≡ before ++ element ∷ [])) ⊎ ((most < length before) × (after ≡ before))
