use Rattle.std.proofs.Common.{◌≡◌, map, take}
use Rattle.sqlvalue.specs.Owned.{owned_value}
use Rattle.subqueries.proofs.Keys.{values_at}
use Rattle.subqueries.proofs.kept_results.is_key.Given as goal

-- the values so far are the same
abbrev pub invariant-values : goal.invariant-values
invariant-values g l = map owned_value (take l.i l.key) ≡ values_at (g.A.OuterRows.combinations l.around) (take l.i l.parameters)
