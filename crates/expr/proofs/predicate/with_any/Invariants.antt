use Rattle.std.proofs.Common.{◌≡◌, map, drop}
use Rattle.definitions.specs.Truth.{or, compared_with_any}
use Rattle.sqlvalue.specs.Meaning.{op_of, value_of}
use Rattle.sqlvalue.specs.Owned.{owned_value}
use Rattle.sqlvalue.specs.Truths.{truth_of}
use Rattle.expr.proofs.predicate.with_any.Given as goal

abbrev pub invariant-loop-other : goal.invariant-loop-other
invariant-loop-other l = or (truth_of l.any) (compared_with_any (op_of l.op) (value_of l.value) (map owned_value (drop l.other-index l.values))) ≡ compared_with_any (op_of l.op) (value_of l.value) (map owned_value l.values)
