use Rattle.std.proofs.Common.{arith, ap, ◌≡◌, ◌∙◌, ◌<◌, ℕ, length, None, Option, true}
use Rattle.std.specs.Prelude.{ℤ}
use Rattle.std.proofs.Math.ListN.{length-set}
use Rattle.definitions.specs.Queries.Evaluation as meaning
use Rattle.expr.specs.Vectors.{of_units, value_at}
use Rattle.expr.proofs.Places.{one_more_place, rest_unchanged}
use Rattle.expr.proofs.vectors.put_under_sign.Goals as goal

pub loop-place-preserved : goal.loop-place-preserved
loop-place-preserved c =
    let scale = c.args.scale in
    let before = c.args.units.now in
    let within : c.loop-place.place < length c.loop-place.units = omega (arith, c.loop-place.invariant.long) in
    record {
      long = simp length-set c.loop-place.invariant.long;
      told = one_more_place (λ (k : ℕ) (u : Option ℤ). of_units scale u ≡ meaning.signed true (value_at scale before k)) c.loop-place.units c.loop-place.place c.in_ok-units.field-0 None within c.loop-place.invariant.told
          (c.in_ok-units.ensures scale ∙ ap (λ (u : Option ℤ). meaning.signed true (of_units scale u)) (c.loop-place.invariant.rest c.loop-place.place (omega arith)));
      rest = rest_unchanged c.loop-place.units before c.loop-place.place c.in_ok-units.field-0 None c.loop-place.invariant.rest;
    }
