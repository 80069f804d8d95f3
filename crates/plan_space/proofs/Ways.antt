-- The shares of conjuncts.
use Rattle.std.proofs.Common.{◌≡◌, ◌∙◌, sym, ap, ℕ, ◌<◌, List, Some, length, map, get_or, arith}
use Rattle.std.specs.Prelude.{option_map, slice_get}
use Rattle.std.proofs.lemmas.List.{length-map}
use Rattle.std.proofs.lemmas.Option.{slice_get-map, slice_get-get_or}
use Rattle.definitions.specs.Plans.Conjunct.{Conjunct}
use Rattle.definitions.specs.Plans.Cost.{selectivity_of}
use Rattle.estimate.specs.PlanConjuncts.{conjunct_of}
use Rattle.estimate.specs.declared.plan_conjunct.PlanConjunct.{PlanConjunct}

pub share_at : (xs : List PlanConjunct) (cs : List Conjunct) (number : ℕ) (d : PlanConjunct) → map conjunct_of xs ≡ cs → number < length cs → (get_or xs number d).selectivity ≡ selectivity_of (slice_get cs number)
share_at xs cs number d is lt =
    let within : number < length xs = omega (arith, lt, ap (λ (all : List Conjunct). length all) is, length-map xs conjunct_of) in
    let there : slice_get cs number ≡ Some (conjunct_of (get_or xs number d)) =
    ap (λ (all : List Conjunct). slice_get all number) (sym is) ∙ slice_get-map conjunct_of xs number ∙ ap (option_map conjunct_of) (slice_get-get_or xs number d within) in
    ap selectivity_of (sym there)
