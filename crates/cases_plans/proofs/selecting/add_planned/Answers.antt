use Rattle.std.proofs.Common.{◌≡◌, ◌∙◌, sym, ap, subst, ◌<◌, List, Some, length, map}
use Rattle.std.specs.Prelude.{slice_get}
use Rattle.std.proofs.lemmas.List.{length-set}
use Rattle.std.proofs.lemmas.Option.{slice_get-get_or}
use Rattle.definitions.specs.Binding.Formed.{IsFormedSomewhere}
use Rattle.definitions.specs.Queries.BoundBlock.{Blocks}
use Rattle.query_tree.specs.Bound.{block_of}
use Rattle.executor.specs.declared.ready_block.ReadyBlock.{ReadyBlock}
use Rattle.executor.specs.ReadyBlocks.{IsReadyIn}
use Rattle.cases_plans.proofs.GivenPlans.{as_many, blocks_stay, each_stays}
use Rattle.cases_plans.proofs.WholeQuery.{all_ready, each_at, outermost, stands}
use Rattle.cases_plans.proofs.selecting.add_planned.Goals as goal

pub ready_blocks-requires-clause-least : goal.ready_blocks-requires-clause-least
ready_blocks-requires-clause-least c = c.in_ok-chosen.ensures

pub numbers-init : goal.numbers-init
numbers-init c = record {
  count = as_many c.in_ok-query.query.items c.args.blocks.now c.in_ok-query.ensures.blocks;
  blocks = c.in_ok-query.ensures.blocks;
  ready = c.in_ok-query.ensures.ready;
}

pub spelled_plan-requires : goal.spelled_plan-requires
spelled_plan-requires c = record {
  formed =
      each_at (IsFormedSomewhere c.args.database.now) block_of c.args.blocks.now c.numbers.number c.index-blocks-number.result c.requires.each c.numbers-test.true c.index-blocks-number.is;
}

pub numbers-preserved : goal.numbers-preserved
numbers-preserved c =
    let db = c.args.database.now in
    let blocks : Blocks = map block_of c.args.blocks.now in
    let number = c.numbers.number in
    let before : List ReadyBlock = c.numbers.query.items in
    let inv = c.numbers.invariant in
    let old : ReadyBlock = c.index_mut.result.now in
    let new : ReadyBlock = c.take_plan.new.ready in
    let within : number < length before = subst (λ n. number < n) (sym inv.count) c.numbers-test.true in
    let here : slice_get before number ≡ Some old = slice_get-get_or before number old within ∙ ap Some (sym c.index_mut.ensures.value) in
    record {
      count = length-set before number new ∙ inv.count;
      blocks = blocks_stay before number old new here c.take_plan.ensures.block ∙ inv.blocks;
      ready = each_stays (IsReadyIn db blocks) before number new inv.ready (c.take_plan.ensures.ready db blocks number (inv.ready number old here));
    }

pub add_answer-requires-clause-query : goal.add_answer-requires-clause-query
add_answer-requires-clause-query c =
    rw c.deref.ensures.value (all_ready c.args.database.now (map block_of c.args.blocks.now) c.numbers.query.items c.numbers.invariant.ready c.numbers.invariant.blocks c.requires.formed)

pub add_answer-requires-clause-outermost : goal.add_answer-requires-clause-outermost
add_answer-requires-clause-outermost c =
    rw c.deref.ensures.value (outermost c.args.database.now (map block_of c.args.blocks.now) c.numbers.query.items c.numbers.invariant.ready c.numbers.invariant.blocks c.requires.formed)

pub add_answer-requires-clause-stands : goal.add_answer-requires-clause-stands
add_answer-requires-clause-stands c =
    rw c.deref.ensures.value (stands c.args.database.now (map block_of c.args.blocks.now) c.numbers.query.items c.numbers.invariant.ready c.numbers.invariant.blocks c.requires.formed)
