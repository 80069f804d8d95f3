use Rattle.std.proofs.Common.{◌≡◌, ◌-◌, ◌^◌, ◌<◌, ◌≤◌, map}
use Rattle.std.specs.List.{range_with_len}
use Rattle.definitions.specs.Scanning.{word_of}
use Rattle.definitions.specs.Truth.{compared, is_true}
use Rattle.sqlvalue.specs.Meaning.{op_of}
use Rattle.expr.specs.Vectors.{value_at}
use Rattle.expr.proofs.vectors.met_rows.Given as goal

-- the word of the places from one on
abbrev pub invariant-loop-place : goal.invariant-loop-place
invariant-loop-place l = record {
  within : l.place ≤ l.count;
  fits : l.word < 2 ^ (l.count - l.place);
  exact : l.word ≡ word_of (map (λ place. is_true (compared (op_of l.op) (value_at l.m l.left place) (value_at l.n l.right place))) (range_with_len l.place (l.count - l.place)));
}

abbrev pub decreases-loop-place : goal.decreases-loop-place
decreases-loop-place l = l.place
