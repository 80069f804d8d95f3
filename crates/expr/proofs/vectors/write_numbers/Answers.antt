use Rattle.std.proofs.Common.{arith, ◌≡◌, ◌∙◌, ◌+◌, ◌<◌, ℕ, length, get_or, None, Option, ap}
use Rattle.std.specs.Prelude.{ℤ}
use Rattle.std.proofs.Math.ListN.{length-set}
use Rattle.columns.specs.Cells.{number_or_null}
use Rattle.columns.specs.Starts.{value_in}
use Rattle.expr.specs.Vectors.{of_units}
use Rattle.expr.proofs.Places.{column_units, one_more_place}
use Rattle.expr.proofs.vectors.write_numbers.Goals as goal

pub loop-place-preserved : goal.loop-place-preserved
loop-place-preserved c =
    let within : c.loop-place.place < length c.loop-place.units = omega (arith, c.loop-place.invariant.long) in
    record {
      long = simp length-set c.loop-place.invariant.long;
      told = one_more_place (λ (k : ℕ) (u : Option ℤ). number_or_null c.args.numbers.now.type u ≡ value_in c.args.numbers.now (c.args.first + k)) c.loop-place.units c.loop-place.place c.units_in.result None within c.loop-place.invariant.told
          c.units_in.ensures.value;
    }

pub returns : goal.returns
returns c = λ k less.
    ap (λ scale. of_units scale (get_or c.loop-place.units k None)) c.scale.ensures ∙ column_units c.args.numbers.now.type (get_or c.loop-place.units k None) ∙ c.loop-place.invariant.told k (omega (arith, less, c.loop-place-test.false))
