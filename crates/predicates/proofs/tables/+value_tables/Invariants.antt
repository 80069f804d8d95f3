use Rattle.std.proofs.Common.{◌≡◌, drop, map}
use Rattle.std.specs.Prelude.{bit_or}
use Rattle.definitions.specs.Queries.Conjuncts.{tables_named, operands_tables}
use Rattle.query_tree.specs.Bound.{operand_of, operands, value_of}
use Rattle.plan_tree.specs.Sets.{set_of}
use Rattle.predicates.proofs.tables.+value_tables.Given as goal

abbrev pub decreases-value_tables : goal.decreases-value_tables
decreases-value_tables l = goal.size-value_tables l

abbrev pub invariant-loop-operand : goal.invariant-loop-operand
invariant-loop-operand l = bit_or (set_of l.tables) (operands_tables (operands (map operand_of (drop l.operand-index l.operand-items)))) ≡ tables_named (value_of l.expr)
