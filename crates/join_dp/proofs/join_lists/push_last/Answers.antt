use Rattle.plan_space.specs.Planned.{space_in}
use Rattle.std.proofs.Common.{map, length}
use Rattle.std.proofs.lemmas.List.{length-map}
use Rattle.std.proofs.lemmas.Result.{IfOk-weaker}
use Rattle.plan_tree.specs.Sets.{set_of}
use Rattle.plan_space.proofs.Deciding.{holds, fails}
use Rattle.join_dp.specs.JoinLists.{AreJoinsWith, IsLonger, known_cost}
use Rattle.join_dp.specs.Views.{added_of}
use Rattle.join_dp.proofs.JoinsListed.{longer_same, longer_more, none_with, joins_with}
use Rattle.join_dp.proofs.Results.{ok_both}
use Rattle.join_dp.proofs.join_lists.push_last.Goals as goal

pub returns-then-not-can_join_next-clause-longer : goal.returns-then-not-can_join_next-clause-longer
returns-then-not-can_join_next-clause-longer c = longer_same (map added_of c.args.joins.now.items)

pub returns-then-not-can_join_next-clause-joins : goal.returns-then-not-can_join_next-clause-joins
returns-then-not-can_join_next-clause-joins c =
    rw (← length-map c.args.joins.now.items added_of) (none_with (space_in c.args.space.now) (set_of c.args.outer.now.tables) c.args.table (map added_of c.args.joins.now.items) (fails _ (c.if-not-can_join_next.ensures (space_in c.args.space.now) c.requires.outer c.requires.table)))

pub returns-clause-longer : goal.returns-clause-longer
returns-clause-longer c =
    IfOk-weaker c.push_merges.result _ (λ r. IsLonger (map added_of c.args.joins.now.items) (map added_of c.push_merges.new.joins.items))
    (λ r l. longer_more (map added_of c.args.joins.now.items) (map added_of c.push_loop.new.joins.items) (map added_of c.push_merges.new.joins.items) c.in_ok-known.ensures.longer l) c.push_merges.ensures.longer

pub returns-clause-joins : goal.returns-clause-joins
returns-clause-joins c =
    let space = space_in c.args.space.now in
    let tables = set_of c.args.outer.now.tables in
    let old = c.args.joins.now.items in
    let mid = c.push_loop.new.joins.items in
    let new = c.push_merges.new.joins.items in
    let may = holds _ (c.if-not-can_join_next.ensures space c.requires.outer c.requires.table) in
    ok_both c.push_merges.result _ _ (λ r. AreJoinsWith space (map added_of new) tables (length old) (length new) c.args.table)
    (λ r longer merges.
    rw (← length-map old added_of, ← length-map new added_of)
    (joins_with space tables c.args.table (known_cost c.in_ok-known.known) (map added_of old) (map added_of mid) (map added_of new) longer c.in_ok-known.ensures.longer may
    (rw (length-map old added_of, length-map mid added_of) c.in_ok-known.ensures.loops) (rw (length-map mid added_of, length-map new added_of) merges)))
    c.push_merges.ensures.longer c.push_merges.ensures.merges
