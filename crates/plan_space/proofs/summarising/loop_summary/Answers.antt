use Rattle.std.proofs.Common.{◌≡◌, ◌∙◌, ◌+◌, Some, None, true, false, ap, refl, sym, subst}
use Rattle.std.proofs.lemmas.Nat.{or_lt, pow_below}
use Rattle.definitions.specs.Plans.Cost.{saturated}
use Rattle.definitions.specs.Plans.Path.{table_of}
use Rattle.definitions.specs.Plans.PlanSpace.{MayFollow}
use Rattle.definitions.specs.Plans.TableSet.{TableSet, only, with_table}
use Rattle.plan_tree.specs.Plans.{path_of}
use Rattle.plan_tree.specs.Sets.{set_of}
use Rattle.plan_space.specs.Loops.{loop_of}
use Rattle.plan_space.specs.Measures.{IsLoopFound}
use Rattle.plan_space.specs.Planned.{space_in}
use Rattle.plan_space.proofs.Plans.{not_following, no_loop, a_loop}
use Rattle.plan_space.proofs.summarising.loop_summary.Goals as goal

pub returns-then-not-follows : goal.returns-then-not-follows
returns-then-not-follows c = λ plan is.
    let space = space_in c.args.space.now in
    let tables = set_of c.args.outer.tables in
    let same : set_of c.relation-relation.result.tables ≡ tables = ap set_of c.relation-relation.ensures.tables in
    not_following space plan c.args.outer is (path_of c.args.path.now)
    (λ follows. let never : false ≡ true = c.if-not-follows.ensures.exact.1 (subst (λ (s : TableSet). MayFollow space s c.table.result) (sym same) (subst (MayFollow space tables) (sym c.table.ensures) follows)) in absurd cc)

pub returns-in_err-item : goal.returns-in_err-item
returns-in_err-item c = λ plan is.
    let space = space_in c.args.space.now in
    rw c.from_residual.ensures (no_loop space plan c.args.outer is (path_of c.args.path.now) (subst (λ (s : TableSet). IsLoopFound space s (path_of c.args.path.now) None) (ap set_of c.relation-relation.ensures.tables) c.in_err-item.ensures))

pub returns : goal.returns
returns c = λ plan is.
    let space = space_in c.args.space.now in
    let tables = set_of c.args.outer.tables in
    let same : set_of c.relation-relation.result.tables ≡ tables = ap set_of c.relation-relation.ensures.tables in
    let path = path_of c.args.path.now in
    let item = loop_of c.in_ok-item.item in
    let follows : MayFollow space tables (table_of path) = subst (MayFollow space tables) c.table.ensures (subst (λ (s : TableSet). MayFollow space s c.table.result) same (c.if-not-follows.ensures.exact.0 refl)) in
    let cost : c.plus.result.number ≡ saturated (c.args.outer.cost.number + item.cost) = c.plus.ensures in
    a_loop space plan c.args.outer is path item _ follows (subst (λ (s : TableSet). IsLoopFound space s path (Some item)) same c.in_ok-item.ensures) (c.with.ensures ∙ ap (with_table tables) c.table-2.ensures) refl cost
    (or_lt space.table_count tables (only (table_of path)) is.inside (pow_below (table_of path) space.table_count follows.0))
