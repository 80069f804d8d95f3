use Rattle.std.proofs.Common.{ℕ, ◌≡◌, ◌+◌, ◌<◌, length, get_or, None}
use Rattle.columns.specs.Cells.{number_or_null}
use Rattle.columns.specs.Starts.{value_in}
use Rattle.expr.proofs.vectors.write_numbers.Given as goal

-- the places before one have their values
abbrev pub invariant-loop-place : goal.invariant-loop-place
invariant-loop-place l = record {
  long : length l.units ≡ 64;
  told : (k : ℕ) → k < l.place → number_or_null l.numbers.type (get_or l.units k None) ≡ value_in l.numbers (l.first + k);
}
