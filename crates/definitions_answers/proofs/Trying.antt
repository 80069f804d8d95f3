-- What late conjuncts say.
use Rattle.std.proofs.Common.{◌∙◌, ℕ, ◌∷◌}
use Rattle.definitions.specs.Queries.Conjuncts.{blocks_of, late_conjuncts}
use Rattle.definitions.specs.Queries.Combinations.{at}
use Rattle.definitions.specs.Queries.Answer.{meanings}
use Rattle.definitions_answers.specs.Steps.{context_among}
use Rattle.definitions_answers.specs.Seen.{seen_subqueries}
use Rattle.definitions_answers.specs.Told.{TellsAsked}
use Rattle.definitions_answers.specs.Trying.{LateConjunctsSayWhatIsTold}
use Rattle.definitions_answers.proofs.Elements.{all_flat}
use Rattle.definitions_answers.proofs.Late.{late_conjuncts_see_what_is_told}

pub late_conjuncts_say : LateConjunctsSayWhatIsTold
late_conjuncts_say db blocks b outer c told h =
    let P : ℕ → Type 0 = λ n. TellsAsked (seen_subqueries b) (meanings db 0 blocks n (c ∷ outer)) (told n) n in
    let seen = late_conjuncts_see_what_is_told (at (context_among db blocks outer) c) told (late_conjuncts b) (all_flat P blocks_of (late_conjuncts b) h) in
    record { quiet = λ all quiet is. (seen.quiet quiet, is ∙ seen.holds quiet); raises = λ e k. seen.raises e k }
