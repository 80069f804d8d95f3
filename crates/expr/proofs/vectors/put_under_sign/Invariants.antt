use Rattle.std.proofs.Common.{ℕ, ◌≡◌, ◌<◌, ◌≤◌, length, get_or, None, true}
use Rattle.definitions.specs.Queries.Evaluation as meaning
use Rattle.expr.specs.Vectors.{value_at}
use Rattle.expr.proofs.vectors.put_under_sign.Given as goal

-- the places before one are under the sign, the others as they were
abbrev pub invariant-loop-place : goal.invariant-loop-place
invariant-loop-place l = record {
  long : length l.units ≡ 64;
  told : (k : ℕ) → k < l.place → value_at l.scale l.units k ≡ meaning.signed true (value_at l.scale l.fn.units k);
  rest : (k : ℕ) → l.place ≤ k → get_or l.units k None ≡ get_or l.fn.units k None;
}
