use Rattle.std.proofs.Common.{◌≡◌, ◌++◌, drop, map}
use Rattle.std.specs.Prelude.{filter}
use Rattle.definitions.specs.Queries.Conjuncts.{is_late}
use Rattle.predicates.specs.Parts.{condition_in}
use Rattle.block_answers.specs.Views.{conditions_of}
use Rattle.block_answers.proofs.late.late_conditions.Given as goal

-- those so far, with those of the conjuncts from one on, are all
abbrev pub invariant-conjuncts : goal.invariant-conjuncts
invariant-conjuncts l =
    conditions_of l.conditions.items ++ filter is_late (map condition_in (drop l.conjunct-index l.conjuncts))
    ≡ filter is_late (map condition_in l.conjuncts)
