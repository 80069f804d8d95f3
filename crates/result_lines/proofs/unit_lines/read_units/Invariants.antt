use Rattle.std.proofs.Common.{ℕ, ◌≡◌, ◌<◌, None, get_or, length}
use Rattle.columns.specs.Cells.{number_or_null}
use Rattle.columns.specs.Starts.{value_in}
use Rattle.result_lines.proofs.unit_lines.read_units.Given as goal

-- the units in the first rows are there
abbrev pub invariant-rows : goal.invariant-rows
invariant-rows l = record {
  here : (k : ℕ) → k < l.i → number_or_null l.numbers.type (get_or l.units k None) ≡ value_in l.numbers (get_or l.rows k 0);
  long : length l.units ≡ length l.rows;
}
