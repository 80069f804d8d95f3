use Rattle.std.proofs.Common.{ℕ, ◌≡◌, ◌+◌, ◌-◌, ◌^◌, ◌<◌, ◌≤◌, map}
use Rattle.std.specs.List.{range_with_len}
use Rattle.definitions.specs.Scanning.{word_of}
use Rattle.definitions.specs.Queries.Combinations.{is_surely_true}
use Rattle.query_tree.specs.Bound.{value_of as tree_of}
use Rattle.expr.specs.RowTruths.{IsTold}
use Rattle.expr.proofs.RowTruths.{tested}
use Rattle.expr.proofs.row_truths.tested_rows.Given as goal

-- the word of the places from one on
abbrev pub invariant-loop-place : goal.invariant-loop-place
invariant-loop-place g l = record {
  within : l.place ≤ l.count;
  fits : l.word < 2 ^ (l.count - l.place);
  exact : l.word ≡ word_of (map (λ k. is_surely_true (tested (g.S.ManyRows.environment l.rows) l.test l.negated (tree_of l.value) (l.first + k))) (range_with_len l.place (l.count - l.place)));
  told : (k : ℕ) → l.place ≤ k → k < l.count → IsTold (tested (g.S.ManyRows.environment l.rows) l.test l.negated (tree_of l.value) (l.first + k));
}

abbrev pub decreases-loop-place : goal.decreases-loop-place
decreases-loop-place g l = l.place
