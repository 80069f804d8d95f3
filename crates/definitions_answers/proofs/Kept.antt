-- Kept results.
use Rattle.std.proofs.Common.{◌≡◌, ◌∙◌, subst}
use Rattle.definitions_answers.specs.Parameters.{outer_values, parameters}
use Rattle.definitions_answers.specs.Told.{Tells}
use Rattle.definitions_answers.specs.Kept.{KeptIsRight}
use Rattle.definitions_answers.proofs.Blocks.{meaning_by_parameters, total_by_parameters}

pub kept_is_right : KeptIsRight
kept_is_right version db blocks plans k outer existence told total tells is outer' e =
    let same : outer_values outer (parameters blocks k) ≡ outer_values outer' (parameters blocks k) = cc in
    (subst (λ m. Tells existence m told) (meaning_by_parameters db blocks k outer outer' same) tells, is ∙ total_by_parameters version db blocks plans k outer outer' same)
