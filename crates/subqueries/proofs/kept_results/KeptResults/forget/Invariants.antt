use Rattle.std.proofs.Common.{◌≡◌, length}
use Rattle.subqueries.specs.Keeping.{LeavesOut}
use Rattle.subqueries.proofs.kept_results.KeptResults.forget.Given as goal

-- of those so far only the latest is left
abbrev pub invariant-places : goal.invariant-places
invariant-places l = record {
  left : LeavesOut l.fn.self l.self;
  count : length l.self.places.items ≡ length l.fn.self.places.items;
}
