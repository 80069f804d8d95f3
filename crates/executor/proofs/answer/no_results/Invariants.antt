use Rattle.std.proofs.Common.{◌≡◌, length, None}
use Rattle.std.specs.List.{AllByRecursion}
use Rattle.subqueries.specs.Keeping.{places_in}
use Rattle.subqueries.specs.declared.kept_results.KeptResults.{KeptResults}
use Rattle.executor.proofs.answer.no_results.Given as goal

-- nothing is kept of those before a number
abbrev pub invariant-blocks-2 : goal.invariant-blocks-2
invariant-blocks-2 l = record {
  count : length l.results.items ≡ l.block-index;
  none : AllByRecursion (λ (own : KeptResults). AllByRecursion (λ place. place ≡ None) (places_in own)) l.results.items;
}
