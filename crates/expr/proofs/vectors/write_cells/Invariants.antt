use Rattle.std.proofs.Common.{ℕ, ◌≡◌, ◌+◌, ◌<◌, length}
use Rattle.definitions.specs.Queries.Evaluation as meaning
use Rattle.query_tree.specs.Bound.{column_of}
use Rattle.expr.specs.Vectors.{value_at}
use Rattle.expr.proofs.vectors.write_cells.Given as goal

-- the places before one have their values
abbrev pub invariant-loop-place : goal.invariant-loop-place
invariant-loop-place g l = record {
  long : length l.units ≡ 64;
  told : (k : ℕ) → k < l.place → value_at l.scale l.units k ≡ meaning.cell (g.S.ManyRows.environment l.rows (l.first + k)).combination (column_of l.column);
}
