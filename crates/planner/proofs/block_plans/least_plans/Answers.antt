use Rattle.std.proofs.Common.{◌+◌, sym, subst, map, arith}
use Rattle.std.proofs.lemmas.List.{length-map}
use Rattle.definitions.specs.Binding.Formed.{IsFormedSomewhere}
use Rattle.query_tree.specs.Bound.{block_of}
use Rattle.planner.proofs.Explained.{each_formed, first_of}
use Rattle.planner.proofs.Least.{LeastTo, next_least, all_least}
use Rattle.planner.proofs.block_plans.least_plans.Goals as goal

pub block_plan-requires : goal.block_plan-requires
block_plan-requires c = record { formed = each_formed (IsFormedSomewhere c.args.database.now) c.args.blocks.now _ _ c.requires.formed c.planning-test.true c.block-item.is }

pub planning-preserved : goal.planning-preserved
planning-preserved c =
    let db = c.args.database.now in
    let blocks = map block_of c.args.blocks.now in
    subst (LeastTo db blocks (c.planning.block-index + 1)) (sym c.in_ok-push.ensures.items)
    (next_least db blocks c.planning.block-index (block_of c.block-item.result) c.planning.plans.items c.in_ok-own.own
    (first_of c.args.blocks.now c.planning.block-index c.block-item.result c.planning-test.true c.block-item.is) c.in_ok-own.ensures c.planning.invariant)

pub returns : goal.returns
returns c = all_least c.args.database.now (map block_of c.args.blocks.now) c.planning.block-index c.planning.plans.items (omega (arith, c.planning-test.false, length-map c.args.blocks.now block_of)) c.planning.invariant
