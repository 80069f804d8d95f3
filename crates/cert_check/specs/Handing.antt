-- What a listener hears of items that are handed out one after another, until it wants no more.
use Rattle.std.specs.Prelude.{◌≡◌, ◌⊎◌, ⊤, Bool, true, false, List, [], ◌∷◌, Option, Some, None, Contains}
use Rattle.std.specs.List.{AllByRecursion}

-- no item comes again
abbrev pub AllDiffer : {X : Type 0} → List X → Type 0
AllDiffer [] = ⊤
AllDiffer (x ∷ xs) = (Contains xs x → ⊥) × AllDiffer xs

-- one listens to a list, and either hears all of it or stops it at an item, which is the last that it hears
abbrev pub Hears : {L X : Type 0} → (L → X → Bool → L → Type 0) → L → List X → Option X → L → Type 0
Hears hears old [] stopped new = (stopped ≡ None) × (new ≡ old)
Hears {L} hears old (x ∷ xs) stopped new = (mid : L) × ((hears old x true mid × Hears hears mid xs stopped new)
    ⊎ (hears old x false mid × (xs ≡ []) × (stopped ≡ Some x) × (new ≡ mid)))

module _ {L X : Type 0} (hears : L → X → Bool → L → Type 0) where
  -- handed out are items of a kind, each once; and all of them, but where they are stopped
  pub record HandsOut (Of : X → Type 0) (old : L) (stopped : Option X) (new : L) : Type 0 where
    pub given : List X
    pub heard : Hears hears old given stopped new
    pub each : AllByRecursion Of given
    pub once : AllDiffer given
    pub all : stopped ≡ None → (x : X) → Of x → Contains given x
