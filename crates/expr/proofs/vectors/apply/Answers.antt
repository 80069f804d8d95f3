use Rattle.std.proofs.Common.{arith, ap, sym, ◌≡◌, ◌∙◌, ◌<◌, ℕ, length, None, Option}
use Rattle.std.specs.Prelude.{ℤ}
use Rattle.std.proofs.Math.ListN.{length-set}
use Rattle.definitions.specs.Arithmetic.{Is}
use Rattle.definitions.specs.Queries.Evaluation as meaning
use Rattle.query_tree.specs.Bound.{operator_of}
use Rattle.expr.specs.Vectors.{of_units, value_at}
use Rattle.expr.proofs.Places.{one_more_place, rest_unchanged}
use Rattle.expr.proofs.vectors.apply.Goals as goal

pub loop-place-preserved : goal.loop-place-preserved
loop-place-preserved c =
    let before = c.args.left.now in
    let right = c.args.right.now in
    let operator = operator_of c.args.operator in
    let place = c.loop-place.place in
    let within : c.loop-place.place < length c.loop-place.left = omega (arith, c.loop-place.invariant.long) in
    record {
      long = simp length-set c.loop-place.invariant.long;
      told = one_more_place (λ (k : ℕ) (u : Option ℤ). meaning.operation operator (value_at c.args.m before k) (value_at c.args.n right k) ≡ Is (of_units c.in_ok-scaling.scaling.scale u)) c.loop-place.left place c.in_ok-left.field-0 None within c.loop-place.invariant.told
          (ap (λ (u : Option ℤ). meaning.operation operator (of_units c.args.m u) (value_at c.args.n right place)) (sym (c.loop-place.invariant.rest place (omega arith)))
          ∙ c.in_ok-left.ensures c.args.m c.args.n c.in_ok-scaling.ensures);
      rest = rest_unchanged c.loop-place.left before place c.in_ok-left.field-0 None c.loop-place.invariant.rest;
    }
