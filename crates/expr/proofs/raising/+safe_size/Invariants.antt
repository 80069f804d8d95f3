use Rattle.std.proofs.Common.{◌≡◌, drop, map}
use Rattle.std.specs.Prelude.{option_map}
use Rattle.query_tree.specs.Bound.{operand_of, operands, value_of as tree_of}
use Rattle.expr.specs.Sizes.{size_of, safe_size}
use Rattle.expr.proofs.Sizes.{safe_line}
use Rattle.expr.proofs.raising.+safe_size.Given as goal

abbrev pub decreases-safe_size : goal.decreases-safe_size
decreases-safe_size l = goal.size-safe_size l

abbrev pub invariant-loop-operand : goal.invariant-loop-operand
invariant-loop-operand l = safe_line (option_map size_of l.size) (operands (map operand_of (drop l.operand-index l.operand-items))) ≡ safe_size (tree_of l.expr)
