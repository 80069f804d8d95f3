use Rattle.std.proofs.Common.{◌≡◌, map, drop}
use Rattle.definitions.specs.Truth.{and, compared_with_all}
use Rattle.sqlvalue.specs.Meaning.{op_of, value_of}
use Rattle.sqlvalue.specs.Owned.{owned_value}
use Rattle.sqlvalue.specs.Truths.{truth_of}
use Rattle.expr.proofs.predicate.with_all.Given as goal

abbrev pub invariant-loop-other : goal.invariant-loop-other
invariant-loop-other l = and (truth_of l.all) (compared_with_all (op_of l.op) (value_of l.value) (map owned_value (drop l.other-index l.values))) ≡ compared_with_all (op_of l.op) (value_of l.value) (map owned_value l.values)
