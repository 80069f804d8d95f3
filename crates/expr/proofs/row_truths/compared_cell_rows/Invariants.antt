use Rattle.std.proofs.Common.{ℕ, ◌≡◌, ◌+◌, ◌-◌, ◌^◌, ◌<◌, ◌≤◌, map}
use Rattle.std.specs.List.{range_with_len}
use Rattle.definitions.specs.Scanning.{word_of}
use Rattle.definitions.specs.Queries.Combinations.{is_surely_true}
use Rattle.sqlvalue.specs.Meaning.{op_of}
use Rattle.query_tree.specs.Bound.{value_of as tree_of}
use Rattle.expr.specs.RowTruths.{IsTold}
use Rattle.expr.proofs.RowTruths.{comparison_on}
use Rattle.expr.proofs.row_truths.compared_cell_rows.Given as goal

-- the word of the places from one on
abbrev pub invariant-loop-place : goal.invariant-loop-place
invariant-loop-place g l = record {
  within : l.place ≤ l.count;
  fits : l.word < 2 ^ (l.count - l.place);
  exact : l.word ≡ word_of (map (λ k. is_surely_true (comparison_on (g.S.ManyRows.environment l.rows) (op_of l.op) (tree_of l.left) (tree_of l.right) (l.first + k))) (range_with_len l.place (l.count - l.place)));
  told : (k : ℕ) → l.place ≤ k → k < l.count → IsTold (comparison_on (g.S.ManyRows.environment l.rows) (op_of l.op) (tree_of l.left) (tree_of l.right) (l.first + k));
}

abbrev pub decreases-loop-place : goal.decreases-loop-place
decreases-loop-place g l = l.place
