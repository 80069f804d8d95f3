use Rattle.std.proofs.Common.{◌≡◌, ◌+◌, map, drop}
use Rattle.definitions.specs.Grammar.{operands}
use Rattle.definitions.specs.Binding.Faults.{conjunct_count, operands_count}
use Rattle.parse_tree.specs.Trees.{expr_of, operand_of}
use Rattle.query_rules.proofs.limit.+conjuncts_left.Given as goal

abbrev pub invariant-operands : goal.invariant-operands
invariant-operands l = conjunct_count (expr_of l.condition) + l.left ≡ l.room + operands_count (operands (map operand_of (drop l.operand-index l.operand-items)))
