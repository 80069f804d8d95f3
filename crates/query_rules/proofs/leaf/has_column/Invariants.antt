use Rattle.std.proofs.Common.{◌≡◌, map, drop}
use Rattle.definitions.specs.Lists.{AnyOf}
use Rattle.query_tree.specs.Bound.{column_of}
use Rattle.query_rules.proofs.leaf.has_column.Given as goal

abbrev pub invariant-loop-other : goal.invariant-loop-other
invariant-loop-other l = AnyOf (λ c. c ≡ column_of l.column) (map column_of l.columns) → AnyOf (λ c. c ≡ column_of l.column) (map column_of (drop l.other-index l.columns))
