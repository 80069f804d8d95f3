use Rattle.std.proofs.Common.{arith, ◌≡◌, ◌∙◌, ◌+◌, ◌<◌, ℕ, length, None, Option}
use Rattle.std.specs.Prelude.{ℤ}
use Rattle.std.proofs.Math.ListN.{length-set}
use Rattle.definitions.specs.Queries.Evaluation as meaning
use Rattle.query_tree.specs.Bound.{column_of}
use Rattle.expr.specs.Vectors.{of_units}
use Rattle.expr.proofs.Places.{one_more_place}
use Rattle.expr.proofs.vectors.write_cells.Goals as goal

pub loop-place-preserved : goal.loop-place-preserved
loop-place-preserved g c =
    let within : c.loop-place.place < length c.loop-place.units = omega (arith, c.loop-place.invariant.long) in
    record {
      long = simp length-set c.loop-place.invariant.long;
      told = one_more_place (λ (k : ℕ) (u : Option ℤ). of_units c.in_ok-scale.scale u ≡ meaning.cell (g.S.ManyRows.environment c.args.rows.now (c.args.first + k)).combination (column_of c.args.column)) c.loop-place.units c.loop-place.place c.in_ok-units.field-0 None within c.loop-place.invariant.told
          (c.in_ok-units.ensures ∙ c.cell.ensures);
    }
