use Rattle.std.proofs.Common.{arith}
use Rattle.indexes.proofs.Placing.{place_more, out_of_place, all_in_place}
use Rattle.indexes.proofs.counting.are_in_place.Goals as goal

pub returns-then-row-place : goal.returns-then-row-place
returns-then-row-place c = out_of_place c.args.rows.now c.loop-place.place c.loop-place-test.true c.if-row-place.true

pub loop-place-preserved : goal.loop-place-preserved
loop-place-preserved c = place_more c.args.rows.now c.loop-place.place c.loop-place.invariant c.loop-place-test.true c.if-row-place.false

pub returns : goal.returns
returns c = all_in_place c.args.rows.now c.loop-place.place c.loop-place.invariant (omega (arith, c.loop-place-test.false, c.loop-place.auto.place-end))
