-- What WHERE keeps is typed.
use Rattle.std.proofs.Common.{refl, List, [], ◌∷◌, arith}
use Rattle.std.specs.Prelude.{Contains}
use Rattle.std.specs.List.{AllByRecursion}
use Rattle.std.proofs.lemmas.List.Elements.{Contains-append_right}
use Rattle.definitions.specs.Queries.Conjuncts.{early_conjuncts, late_conjuncts}
use Rattle.definitions.specs.Queries.Combinations.{all_combinations, all_hold, passing}
use Rattle.definitions_execution.specs.TypedCombinations.{IsTypedCombination}
use Rattle.definitions_execution.proofs.TypedRows.{combinations_typed}
use Rattle.definitions_answers.specs.Formed.{KeptAreTyped}
use Rattle.definitions_answers.proofs.Taken.{all_filtered}

by_members : {X : Type 0} (P : X → Type 0) (xs : List X) → ((x : X) → Contains xs x → P x) → AllByRecursion P xs
by_members P [] f = tt
by_members P (x ∷ xs) f = (f x (0, omega arith, refl), by_members P xs (λ y h. f y (Contains-append_right (x ∷ []) xs y h)))

pub kept_are_typed : KeptAreTyped
kept_are_typed context b valid =
    all_filtered (IsTypedCombination context.database b) (all_hold context (late_conjuncts b)) (passing context b)
    (all_filtered (IsTypedCombination context.database b) (all_hold context (early_conjuncts b)) (all_combinations context b)
    (by_members (IsTypedCombination context.database b) (all_combinations context b) (λ c h. combinations_typed context b c valid h)))
