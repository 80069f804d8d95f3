use Rattle.plan_space.specs.Planned.{space_in}
use Rattle.std.proofs.Common.{◌≡◌, ◌∙◌, refl, ◌++◌, [], ◌∷◌, ap, map}
use Rattle.std.proofs.lemmas.List.{length-map, map-append}
use Rattle.plan_space.specs.Items.{item_of}
use Rattle.plan_space.proofs.PathItems.{IsPathItem}
use Rattle.plan_tree.specs.Sets.{set_of}
use Rattle.join_dp.specs.Views.{added_of}
use Rattle.join_dp.proofs.JoinsListed.{loop_is, one_loop}
use Rattle.join_dp.proofs.join_lists.push_loop.Goals as goal

pub returns-clause-loops : goal.returns-clause-loops
returns-clause-loops c =
    let space = space_in c.args.space.now in
    let right : IsPathItem space (set_of c.args.outer.now.tables) c.args.table (item_of c.in-Some.item) = (c.in-Some.ensures.0, c.in-Some.ensures.1) in
    let is = loop_is space (set_of c.args.outer.now.tables) c.args.table (item_of c.in-Some.item) _ _ _ c.loop_cost-cost.result.number c.requires.follows right refl c.requires.outer.rows refl c.loop_cost-cost.ensures in
    let e : map added_of c.push.new.self.items ≡ map added_of c.args.joins.now.items ++ _ ∷ [] = ap (map added_of) c.in_ok-push.ensures.items ∙ map-append added_of c.args.joins.now.items (_ ∷ []) in
    rw (← length-map c.args.joins.now.items added_of, ← length-map c.push.new.self.items added_of, e)
    (one_loop space (set_of c.args.outer.now.tables) c.args.table (map added_of c.args.joins.now.items) (item_of c.in-Some.item) c.loop_cost-cost.result.number right is c.in-Some.ensures.2)
