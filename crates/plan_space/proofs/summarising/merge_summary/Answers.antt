use Rattle.std.proofs.Common.{◌≡◌, ◌∙◌, ◌+◌, ℕ, Some, None, true, false, ap, refl, sym, subst}
use Rattle.std.proofs.lemmas.Nat.{or_lt, pow_below}
use Rattle.definitions.specs.Plans.Cost.{saturated}
use Rattle.definitions.specs.Plans.Path.{table_of}
use Rattle.definitions.specs.Plans.PlanSpace.{MayFollow}
use Rattle.definitions.specs.Plans.TableSet.{TableSet, only, with_table}
use Rattle.plan_tree.specs.Plans.{inner_of}
use Rattle.plan_tree.specs.Sets.{set_of}
use Rattle.interesting_orders.specs.Merges.{GoesBy}
use Rattle.plan_space.specs.Measures.{IsMergeFound}
use Rattle.plan_space.specs.Merges.{merge_of}
use Rattle.plan_space.specs.Planned.{space_in}
use Rattle.plan_space.proofs.Plans.{not_following_merge, not_going, no_merge, a_merge}
use Rattle.plan_space.proofs.summarising.merge_summary.Goals as goal

pub returns-then-not-follows : goal.returns-then-not-follows
returns-then-not-follows c = λ plan is.
    let space = space_in c.args.space.now in
    let tables = set_of c.args.outer.tables in
    let same : set_of c.relation-relation.result.tables ≡ tables = ap set_of c.relation-relation.ensures.tables in
    not_following_merge space plan c.args.outer is c.args.conjunct (inner_of c.args.inner.now)
    (λ follows. let never : false ≡ true = c.if-not-follows.ensures.exact.1 (subst (λ (s : TableSet). MayFollow space s c.table-table.result) (sym same) (subst (MayFollow space tables) (sym c.table-table.ensures) follows)) in absurd cc)

pub returns-then-not-goes_by : goal.returns-then-not-goes_by
returns-then-not-goes_by c = λ plan is.
    let space = space_in c.args.space.now in
    let tables = set_of c.args.outer.tables in
    let same : set_of c.relation-relation.result.tables ≡ tables = ap set_of c.relation-relation.ensures.tables in
    not_going space plan c.args.outer is c.args.conjunct (inner_of c.args.inner.now)
    (λ goes. let never : false ≡ true = (c.if-not-goes_by.ensures space c.relation-relation.ensures.exact).1 (subst (λ (s : TableSet). GoesBy space s c.args.outer.order c.args.conjunct c.table-table.result) (sym same) (subst (λ (t : ℕ). GoesBy space tables c.args.outer.order c.args.conjunct t) (sym c.table-table.ensures) goes)) in absurd cc)

pub returns-in_err-item : goal.returns-in_err-item
returns-in_err-item c = λ plan is.
    let space = space_in c.args.space.now in
    rw c.from_residual.ensures (no_merge space plan c.args.outer is c.args.conjunct (inner_of c.args.inner.now) (subst (λ (s : TableSet). IsMergeFound space s c.args.conjunct (inner_of c.args.inner.now) None) (ap set_of c.relation-relation.ensures.tables) c.in_err-item.ensures))

pub returns : goal.returns
returns c = λ plan is.
    let space = space_in c.args.space.now in
    let tables = set_of c.args.outer.tables in
    let same : set_of c.relation-relation.result.tables ≡ tables = ap set_of c.relation-relation.ensures.tables in
    let inner = inner_of c.args.inner.now in
    let item = merge_of c.in_ok-item.item in
    let follows : MayFollow space tables (table_of inner.path) = subst (MayFollow space tables) c.table-table.ensures (subst (λ (s : TableSet). MayFollow space s c.table-table.result) same (c.if-not-follows.ensures.exact.0 refl)) in
    let goes : GoesBy space tables c.args.outer.order c.args.conjunct (table_of inner.path) =
    subst (λ (t : ℕ). GoesBy space tables c.args.outer.order c.args.conjunct t) c.table-table.ensures (subst (λ (s : TableSet). GoesBy space s c.args.outer.order c.args.conjunct c.table-table.result) same ((c.if-not-goes_by.ensures space c.relation-relation.ensures.exact).0 refl)) in
    let cost : c.plus.result.number ≡ saturated (c.args.outer.cost.number + item.cost) = c.plus.ensures in
    a_merge space plan c.args.outer is c.args.conjunct inner item _ follows goes (subst (λ (s : TableSet). IsMergeFound space s c.args.conjunct inner (Some item)) same c.in_ok-item.ensures) (c.with.ensures ∙ ap (with_table tables) c.table-table.ensures) refl cost
    (or_lt space.table_count tables (only (table_of inner.path)) is.inside (pow_below (table_of inner.path) space.table_count follows.0))
