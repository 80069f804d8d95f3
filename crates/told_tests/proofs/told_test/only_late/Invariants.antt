use Rattle.std.proofs.Common.{◌≡◌, [], ◌∷◌, take, map, filter}
use Rattle.std.specs.Prelude.{MatchOption}
use Rattle.definitions.specs.Queries.Conjuncts.{is_late}
use Rattle.predicates.specs.Parts.{condition_in}
use Rattle.told_tests.proofs.told_test.only_late.Given as goal

-- the late ones so far
abbrev pub invariant-conjuncts : goal.invariant-conjuncts
invariant-conjuncts l =
    MatchOption l.only (filter is_late (map condition_in (take l.conjunct-index l.conjuncts)) ≡ []) (λ only. filter is_late (map condition_in (take l.conjunct-index l.conjuncts)) ≡ condition_in only ∷ [])
