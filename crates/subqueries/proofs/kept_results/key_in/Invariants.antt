use Rattle.std.proofs.Common.{◌≡◌, ◌++◌, map, drop}
use Rattle.sqlvalue.specs.Owned.{owned_value}
use Rattle.subqueries.proofs.Keys.{values_at}
use Rattle.subqueries.proofs.kept_results.key_in.Given as goal

-- the values so far, and those that are left, are all
abbrev pub invariant-values : goal.invariant-values
invariant-values g l = map owned_value l.key.items ++ values_at (g.A.OuterRows.combinations l.around) (drop l.outer-index l.parameters) ≡ values_at (g.A.OuterRows.combinations l.around) l.parameters
