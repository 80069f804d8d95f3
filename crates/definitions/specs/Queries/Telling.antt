-- What may be told of a meaning: its result, or one of its exceptions.
use Rattle.std.specs.Prelude.{ℕ, ◌≡◌, List, ◌∷◌, Result, Ok, Err, All, Contains, IsPermutation}
use Rattle.definitions.specs.Table.{Row}
use Rattle.definitions.specs.Arithmetic.{Raise, Meaning, Is, Raises}
use Rattle.definitions.specs.Queries.BoundBlock.{ValueExpr, Condition}
use Rattle.definitions.specs.Queries.Evaluation.{Environment, value, truth}

-- what an evaluation answers, where an expression means this
abbrev pub MayAnswer : {X : Type 0} → Meaning X → Result X Raise → Type 0
MayAnswer (Is x) (Ok y) = y ≡ x
MayAnswer (Raises r rs) (Err e) = Contains (r ∷ rs) e
MayAnswer m answer = ⊥

-- one meaning instead of another: results that are alike, or no exceptions but the other's
abbrev pub StandsFor : {X : Type 0} → (X → X → Type 0) → Meaning X → Meaning X → Type 0
StandsFor Alike (Is x) (Is y) = Alike x y
StandsFor Alike (Raises r rs) (Raises q qs) = All (Contains (r ∷ rs)) (q ∷ qs)
StandsFor Alike m n = ⊥

-- the rows of each inner block in some order, or some of its exceptions
abbrev pub InnerStandsFor : (ℕ → Meaning (List Row)) → (ℕ → Meaning (List Row)) → Type 0
InnerStandsFor inner inner' = (block : ℕ) → StandsFor IsPermutation (inner block) (inner' block)

-- what expressions mean doesn't hang on the order of a subquery's rows, and where a subquery raises it may stand for
-- one of its exceptions
abbrev pub SubqueriesStandInAnyOrder : Type 0
SubqueriesStandInAnyOrder =
    (env : Environment) (inner : ℕ → Meaning (List Row)) → InnerStandsFor env.inner inner
    → ((e : ValueExpr) → StandsFor (λ v w. v ≡ w) (value env e) (value (record env { inner = inner }) e))
    × ((c : Condition) → StandsFor (λ t u. t ≡ u) (truth env c) (truth (record env { inner = inner }) c))
