use Rattle.std.proofs.Common.{refl, ◌≡◌, List, ℕ, true, false, subst}
use Rattle.plan_tree.specs.Plans.{path_of}
use Rattle.plan_tree.specs.Sets.{set_of}
use Rattle.plan_space.specs.Item.{Item, AreItems}
use Rattle.plan_space.specs.Items.{item_of}
use Rattle.plan_space.specs.Planned.{space_in}
use Rattle.plan_space.proofs.Plans.{IsLeft, all_left, one_passed, here}
use Rattle.plan_space.proofs.summarising.find_path.Goals as goal

pub paths-init : goal.paths-init
paths-init c =
    let space = space_in c.args.space.now in
    let known = set_of c.args.known in
    all_left space known (path_of c.args.path.now) c.paths-rest.result (subst (λ (table : ℕ). AreItems space known table c.paths-rest.result) c.table-2.ensures c.paths-rest.ensures)

pub paths-preserved : goal.paths-preserved
paths-preserved c =
    let space = space_in c.args.space.now in
    let path = path_of c.args.path.now in
    let known = set_of c.args.known in
    let item = item_of c.in-Some.item in
    let rest = c.next.new.self in
    one_passed space known path item rest (subst (λ (items : List Item). IsLeft space known path items) c.in-Some.ensures.steps c.paths.invariant)
    (λ e. let never : false ≡ true = c.if-are_one.ensures.1 e in absurd cc)

pub returns-then-are_one-clause-exact : goal.returns-then-are_one-clause-exact
returns-then-are_one-clause-exact c =
    let space = space_in c.args.space.now in
    let path = path_of c.args.path.now in
    let known = set_of c.args.known in
    let item = item_of c.in-Some.item in
    let rest = c.next.new.self in
    here space known path item rest (subst (λ (items : List Item). IsLeft space known path items) c.in-Some.ensures.steps c.paths.invariant) (c.if-are_one.ensures.0 refl)
