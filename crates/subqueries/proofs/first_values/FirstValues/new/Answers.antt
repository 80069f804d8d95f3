use Rattle.std.proofs.Common.{◌≡◌, subst, rules}
use Rattle.std.specs.Ordering.{is_lt}
use Rattle.std.proofs.lemmas.Fn.{always_returns_same}
use Rattle.std.proofs.lemmas.List.Sorted.{IsPermutation-map, ranks_by}
use Rattle.definitions.specs.Value.{rank}
use Rattle.definitions.proofs.Ranking.{rank_total}
use Rattle.sqlvalue.specs.Owned.{owned_value}
use Rattle.subqueries.specs.NumberKeys.{AreKeys}
use Rattle.subqueries.proofs.first_values.FirstValues.new.Goals as goal

pub returns : goal.returns
returns c = IsPermutation-map owned_value _ _ c.sort_unstable_by.ensures.permutation

pub invariant_of-result-clause-sorted : goal.invariant_of-result-clause-sorted
invariant_of-result-clause-sorted c =
    c.sort_unstable_by.ensures.sorted (λ x y. is_lt (rank (owned_value x) (owned_value y))) (ranks_by rank_total owned_value)
    (always_returns_same _ (λ a r. is_lt r ≡ is_lt (rank (owned_value a.0.now) (owned_value a.1.0.now))) _ (λ a r f' k. (search rules, search rules)))

pub invariant_of-result-clause-keyed : goal.invariant_of-result-clause-keyed
invariant_of-result-clause-keyed c = λ x is. subst (λ xs. AreKeys x.scale xs x.keys.items) c.as_slice.ensures.value (c.in_ok-keys.ensures x is)
