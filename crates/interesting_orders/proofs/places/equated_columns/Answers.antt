use Rattle.std.proofs.Common.{subst, map, arith}
use Rattle.query_tree.specs.Bound.{column_of}
use Rattle.interesting_orders.specs.Places.{HasSides}
use Rattle.interesting_orders.proofs.Growing.{next_sides, all_sides}
use Rattle.interesting_orders.proofs.places.equated_columns.Goals as goal

pub conjuncts-preserved : goal.conjuncts-preserved
conjuncts-preserved c =
    let before = map column_of c.conjuncts.columns.items in
    let after = map column_of c.add_sides.new.columns.items in
    let grown = c.in_ok-add_sides.ensures.grown in
    record {
      few = omega (arith, c.in_ok-add_sides.ensures.few, c.conjuncts.invariant.few);
      distinct = grown.distinct c.conjuncts.invariant.distinct;
      whole = next_sides before after c.args.conjuncts.now c.conjuncts.conjunct-index c.conjunct-item.result c.conjuncts-test.true c.conjunct-item.is grown c.conjuncts.invariant.whole
          (subst (HasSides after) c.sides.ensures c.in_ok-add_sides.ensures.there);
    }

pub returns-clause-whole : goal.returns-clause-whole
returns-clause-whole c = all_sides (map column_of c.conjuncts.columns.items) c.args.conjuncts.now c.conjuncts.conjunct-index c.conjuncts-test.false c.conjuncts.invariant.whole
