use Rattle.std.proofs.Common.{◌≡◌, ◌∷◌, List, map, refl, subst}
use Rattle.definitions.proofs.PlanTheory.Elements.{first_is}
use Rattle.plan_space.specs.Item.{Item}
use Rattle.plan_space.specs.Items.{item_of}
use Rattle.plan_space.specs.MergeListed.{found_merge_of}
use Rattle.plan_space.proofs.Walking.{AddsBut, before_all, after_one, after_all}
use Rattle.plan_space.proofs.merge_lists.add_merges.Goals as goal

pub paths-init : goal.paths-init
paths-init c = λ space clause are once. before_all space c.args.clause.table c.args.clause.conjunct c.args.paths (map found_merge_of c.args.merges.now.items) are once

pub paths-preserved : goal.paths-preserved
paths-preserved c = λ space clause are once.
    let table = c.args.clause.table in
    let number = c.args.clause.conjunct in
    let old = map found_merge_of c.args.merges.now.items in
    let mid = map found_merge_of c.paths.merges.items in
    let item = item_of c.in-Some.item in
    let rest = c.next.new.self in
    let is : c.paths.rest ≡ item ∷ rest = c.in-Some.ensures.steps in
    let before : AddsBut space table number (item ∷ rest) old mid = subst (λ (items : List Item). AddsBut space table number items old mid) is (c.paths.invariant space clause are once) in
    let there = before.paths item.path (first_is item.path (map (λ (i : Item). i.path) rest) item.path refl) in
    after_one space table number item rest old mid (map found_merge_of c.add_path.new.merges.items) before (c.in_ok-add_path.ensures space clause before.each.0 there)

pub returns : goal.returns
returns c = λ space clause are once.
    let table = c.args.clause.table in
    let number = c.args.clause.conjunct in
    let old = map found_merge_of c.args.merges.now.items in
    let new = map found_merge_of c.paths.merges.items in
    after_all space table number old new (subst (λ (items : List Item). AddsBut space table number items old new) c.in_default.ensures.steps.0 (c.paths.invariant space clause are once))
