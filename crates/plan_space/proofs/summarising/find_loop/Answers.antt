use Rattle.std.proofs.Common.{ℕ, ◌≡◌, List, true, false, refl, subst}
use Rattle.plan_tree.specs.Plans.{path_of}
use Rattle.plan_tree.specs.Sets.{set_of}
use Rattle.plan_space.specs.Loop.{LoopItem, AreLoops}
use Rattle.plan_space.specs.Loops.{loop_of}
use Rattle.plan_space.specs.Planned.{space_in}
use Rattle.plan_space.proofs.Plans.{IsLeftLoop, all_loops_left, one_loop_passed, loop_here}
use Rattle.plan_space.proofs.summarising.find_loop.Goals as goal

pub loops-init : goal.loops-init
loops-init c =
    let space = space_in c.args.space.now in
    let tables = set_of c.args.outer.now.tables in
    all_loops_left space tables (path_of c.args.path.now) c.loops-rest.result (subst (λ (table : ℕ). AreLoops space tables table c.loops-rest.result) c.table.ensures c.loops-rest.ensures)

pub loops-preserved : goal.loops-preserved
loops-preserved c =
    let space = space_in c.args.space.now in
    let path = path_of c.args.path.now in
    let tables = set_of c.args.outer.now.tables in
    let item = loop_of c.in-Some.item in
    let rest = c.next.new.self in
    one_loop_passed space tables path item rest (subst (λ (items : List LoopItem). IsLeftLoop space tables path items) c.in-Some.ensures.steps c.loops.invariant)
    (λ e. let never : false ≡ true = c.if-are_one.ensures.1 e in absurd cc)

pub returns-then-are_one : goal.returns-then-are_one
returns-then-are_one c =
    let space = space_in c.args.space.now in
    let path = path_of c.args.path.now in
    let tables = set_of c.args.outer.now.tables in
    let item = loop_of c.in-Some.item in
    let rest = c.next.new.self in
    loop_here space tables path item rest (subst (λ (items : List LoopItem). IsLeftLoop space tables path items) c.in-Some.ensures.steps c.loops.invariant) (c.if-are_one.ensures.0 refl)
