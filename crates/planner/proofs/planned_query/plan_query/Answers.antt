use Rattle.std.proofs.Common.{ℕ, ◌+◌, sym, ap, subst, map, arith}
use Rattle.std.proofs.lemmas.List.{length-map}
use Rattle.definitions.specs.Binding.Formed.{IsFormedSomewhere}
use Rattle.query_tree.specs.Bound.{block_of}
use Rattle.planner.specs.Planned.{IsPlanned}
use Rattle.planner.proofs.Explained.{each_formed, first_of}
use Rattle.planner.proofs.Plans.{PlansTo, next_planned, all_planned}
use Rattle.planner.proofs.planned_query.plan_query.Goals as goal

pub new-requires : goal.new-requires
new-requires c = record { formed = each_formed (IsFormedSomewhere c.args.database.now) c.args.blocks.now _ _ c.requires.formed c.planning-test.true c.block-item.is }

pub planning-preserved : goal.planning-preserved
planning-preserved c =
    let db = c.args.database.now in
    let blocks = map block_of c.args.blocks.now in
    let own = subst (λ (n : ℕ). IsPlanned db n (block_of c.block-item.result) c.in_ok-own.own) c.planning.invariant.number c.in_ok-own.ensures in
    record {
      planned = subst (PlansTo db blocks (c.planning.block-index + 1)) (sym c.in_ok-push.ensures.items)
          (next_planned db blocks c.planning.block-index (block_of c.block-item.result) c.planning.planned.items c.in_ok-own.own
          (first_of c.args.blocks.now c.planning.block-index c.block-item.result c.planning-test.true c.block-item.is) own c.planning.invariant.planned);
      number = ap (λ n. n + 1) c.planning.invariant.number;
    }

pub returns : goal.returns
returns c = all_planned c.args.database.now (map block_of c.args.blocks.now) c.planning.block-index c.planning.planned.items (omega (arith, c.planning-test.false, length-map c.args.blocks.now block_of)) c.planning.invariant.planned
