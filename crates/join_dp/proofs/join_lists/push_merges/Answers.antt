use Rattle.plan_space.specs.Planned.{space_in}
use Rattle.std.proofs.Common.{Some, None, ap, map, length, option_map, subst, sym, arith}
use Rattle.std.proofs.lemmas.List.{length-map}
use Rattle.std.proofs.lemmas.Result.{IfOk-weaker}
use Rattle.plan_space.specs.Merges.{merge_of}
use Rattle.plan_tree.specs.Sets.{set_of}
use Rattle.plan_space.proofs.Deciding.{fails}
use Rattle.join_dp.specs.JoinLists.{known_cost, AreMergesBelow, IsLonger}
use Rattle.join_dp.specs.Views.{added_of}
use Rattle.join_dp.proofs.JoinsListed.{not_less, merges_begin, merge_dear, merge_kept, merge_few, merges_end}
use Rattle.join_dp.proofs.join_lists.push_merges.Goals as goal

pub merges-init : goal.merges-init
merges-init c = rw c.into_iter-item-iterator.ensures.into_iter_gives
    (merges_begin (space_in c.args.space.now) (set_of c.args.outer.now.tables) c.args.table (known_cost c.args.known) (map added_of c.args.joins.now.items) _ c.merges-item-items.ensures, (c.merges-item-items.result, c.merges-item-items.ensures, omega arith))

pub merges-preserved-then-adds_less : goal.merges-preserved-then-adds_less
merges-preserved-then-adds_less c =
    let i = c.merges.invariant in
    let space = space_in c.args.space.now in
    let tables = set_of c.args.outer.now.tables in
    let known = known_cost c.args.known in
    let old = map added_of c.args.joins.now.items in
    let xs = map added_of c.merges.joins.items in
    let ys = map added_of c.keep_best.new.joins.items in
    let best = option_map merge_of c.merges.best in
    let next = merge_of c.in_ok-keep_best.field-0 in
    let item = merge_of c.in-Some.item in
    let is = c.in-Some.ensures.steps in
    let few = merge_few space tables c.args.table known old xs _ _ item is c.requires.follows best next ys c.in_ok-keep_best.ensures in (
      merge_kept space tables c.args.table known old xs _ _ item is c.requires.follows best next ys c.in_ok-keep_best.ensures i.0,
      (i.1.0, i.1.1, omega (arith, i.1.2, ap length is, few)),
    )

pub merges-preserved : goal.merges-preserved
merges-preserved c =
    let i = c.merges.invariant in (
      merge_dear (space_in c.args.space.now) (set_of c.args.outer.now.tables) c.args.table (known_cost c.args.known) (map added_of c.args.joins.now.items) (map added_of c.merges.joins.items) (option_map merge_of c.merges.best) _ _ (merge_of c.in-Some.item) c.in-Some.ensures.steps (not_less _ _ (fails _ c.if-adds_less.ensures)) i.0,
      (i.1.0, i.1.1, omega (arith, i.1.2, ap length c.in-Some.ensures.steps)),
    )

pub returns-in-Some-best-clause-longer : goal.returns-in-Some-best-clause-longer
returns-in-Some-best-clause-longer c =
    let i = rw c.in-Some-best.is at c.merges.invariant in
    let ended = merges_end (space_in c.args.space.now) (set_of c.args.outer.now.tables) c.args.table (known_cost c.args.known) (map added_of c.args.joins.now.items) (map added_of c.merges.joins.items) (Some (merge_of c.in-Some-best.best)) _ i.1.0 c.in-None.ensures.steps.0 c.requires.follows i.1.1 i.1.2 i.0 in
    IfOk-weaker c.push_merge.result _ (λ r. IsLonger (map added_of c.args.joins.now.items) (map added_of c.push_merge.new.joins.items)) (λ r e. rw e ended.0) c.push_merge.ensures

pub returns-in-Some-best-clause-merges : goal.returns-in-Some-best-clause-merges
returns-in-Some-best-clause-merges c =
    let i = rw c.in-Some-best.is at c.merges.invariant in
    let space = space_in c.args.space.now in
    let tables = set_of c.args.outer.now.tables in
    let known = known_cost c.args.known in
    let old = c.args.joins.now.items in
    let new = c.push_merge.new.joins.items in
    let ended = merges_end space tables c.args.table known (map added_of old) (map added_of c.merges.joins.items) (Some (merge_of c.in-Some-best.best)) _ i.1.0 c.in-None.ensures.steps.0 c.requires.follows i.1.1 i.1.2 i.0 in
    IfOk-weaker c.push_merge.result _ (λ r. AreMergesBelow space (map added_of new) tables (length old) (length new) c.args.table known)
    (λ r e. rw (← length-map old added_of, ← length-map new added_of) (subst (λ xs. AreMergesBelow space xs tables (length (map added_of old)) (length xs) c.args.table known) (sym e) ended.1)) c.push_merge.ensures

pub returns-in-None-best-clause-longer : goal.returns-in-None-best-clause-longer
returns-in-None-best-clause-longer c = c.merges.invariant.0.longer

pub returns-in-None-best-clause-merges : goal.returns-in-None-best-clause-merges
returns-in-None-best-clause-merges c =
    let i = rw c.in-None-best.is at c.merges.invariant in
    rw (← length-map c.args.joins.now.items added_of, ← length-map c.merges.joins.items added_of)
    (merges_end (space_in c.args.space.now) (set_of c.args.outer.now.tables) c.args.table (known_cost c.args.known) (map added_of c.args.joins.now.items) (map added_of c.merges.joins.items) None _ i.1.0 c.in-None.ensures.steps.0 c.requires.follows i.1.1 i.1.2 i.0).1
