-- What is told of a block is what it may answer.
use Rattle.std.proofs.Common.{◌≡◌, ◌∙◌, refl, sym, ap, subst, List, [], ◌∷◌, map, Result, Ok}
use Rattle.definitions.specs.Value as v
use Rattle.definitions.specs.Arithmetic as a
use Rattle.definitions.specs.Truth.{Truth}
use Rattle.definitions.specs.Queries.Evaluation.{column_values, on_one}
use Rattle.definitions.specs.Queries.Telling.{MayAnswer}
use Rattle.definitions_answers.specs.Told.{meaning_told}

first_values : (values : List v.Value) → values ≡ column_values (map (λ x. x ∷ []) values)
first_values [] = refl
first_values (x ∷ xs) = ap (λ ws. x ∷ ws) (first_values xs)

abbrev pub MayTell : Result (List v.Value) a.Raise → Result (List v.Value) a.Raise → Type 0
MayTell told answer = MayAnswer (on_one column_values (meaning_told told)) answer

pub values_told : (told : Result (List v.Value) a.Raise) (values shown : List v.Value) → told ≡ Ok values → shown ≡ values → MayTell told (Ok shown)
values_told told values shown is same = subst (λ r. MayTell r (Ok shown)) (sym is) (same ∙ first_values values)

-- a value compared with them
abbrev pub MayTellCompared : Result (List v.Value) a.Raise → (List v.Value → Truth) → Truth → Type 0
MayTellCompared told compared truth = MayAnswer (on_one compared (on_one column_values (meaning_told told))) (Ok truth)

pub compared_told : (told : Result (List v.Value) a.Raise) (values : List v.Value) (compared : List v.Value → Truth) (truth : Truth) → told ≡ Ok values → truth ≡ compared values → MayTellCompared told compared truth
compared_told told values compared truth is same = subst (λ r. MayTellCompared r compared truth) (sym is) (same ∙ ap compared (first_values values))
