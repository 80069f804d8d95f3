use Rattle.std.proofs.Common.{◌≡◌, None, length}
use Rattle.std.specs.List.{AllByRecursion}
use Rattle.std.proofs.Common.{map}
use Rattle.std.specs.Prelude.{option_map}
use Rattle.subqueries.specs.Keeping.{kept_in}
use Rattle.subqueries.proofs.kept_results.KeptResults.new.Given as goal

abbrev pub invariant-places : goal.invariant-places
invariant-places l = record {
  empty : AllByRecursion (λ place. place ≡ None) (map (option_map kept_in) l.places.items);
  count : length l.places.items ≡ l._place;
}
