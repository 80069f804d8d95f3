use Rattle.std.proofs.Common.{ℕ, ◌≡◌, ◌<◌, ◌≤◌, length, get_or, None}
use Rattle.definitions.specs.Arithmetic.{Is}
use Rattle.definitions.specs.Queries.Evaluation as meaning
use Rattle.query_tree.specs.Bound.{operator_of}
use Rattle.expr.specs.Vectors.{value_at}
use Rattle.expr.proofs.vectors.apply.Given as goal

-- the places before one have their values, the others are as they were
abbrev pub invariant-loop-place : goal.invariant-loop-place
invariant-loop-place l = record {
  long : length l.left ≡ 64;
  told : (k : ℕ) → k < l.place → meaning.operation (operator_of l.operator) (value_at l.m l.fn.left k) (value_at l.n l.right k) ≡ Is (value_at l.scaling.scale l.left k);
  rest : (k : ℕ) → l.place ≤ k → get_or l.left k None ≡ get_or l.fn.left k None;
}
