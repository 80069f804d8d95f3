use Rattle.std.proofs.Common.{◌∙◌, sym, subst}
use Rattle.definitions.specs.Plans.ColumnClass.{Satisfies}
use Rattle.definitions.specs.Plans.Order.{ascending}
use Rattle.definitions.specs.Plans.Space.{order_at}
use Rattle.definitions.specs.Plans.TableSet.{Has}
use Rattle.plan_tree.specs.Sets.{set_of}
use Rattle.plan_tree.proofs.Tests.{has_it}
use Rattle.interesting_orders.specs.Equated.{column_in}
use Rattle.interesting_orders.proofs.Going.{no_lead, goes, went}
use Rattle.interesting_orders.proofs.interesting_orders.InterestingOrders.goes_by.Goals as goal

pub returns-in_default : goal.returns-in_default
returns-in_default c = λ space u classes.
    ((λ h. absurd cc), λ by'. absurd (no_lead space c.args.self.now.equated (order_at space c.args.order) c.at.result u.equated (c.at.ensures.exact space u) c.in_default.is (set_of c.args.tables) by'.0 by'.1 c.args.conjunct by'.2 by'.5))

pub returns-in_default-sides : goal.returns-in_default-sides
returns-in_default-sides c = λ space u classes.
    let none = rw c.in_default-sides.is at (c.sides.ensures.exact space u.equated) in
    ((λ h. absurd cc), λ by'. absurd (none by'.0 by'.1 by'.2 by'.4))

pub returns-then-has : goal.returns-then-has
returns-then-has c = λ space u classes.
    let sides = rw c.in-Some-sides.is at (c.sides.ensures.exact space u.equated) in
    let is_use = c.at.ensures.exact space u in
    let e = c.args.self.now.equated in
    let outer = column_in e c.in-Some-sides.sides.outer in
    let has : Has (set_of c.args.tables) outer.table = subst (Has (set_of c.args.tables)) c.table.ensures (has_it (set_of c.args.tables) c.table.result (sym c.has.ensures ∙ c.if-has.true)) in
    let joined = c.are_joined.ensures space (set_of c.args.tables) classes in (
      (λ yes. (
        outer,
        column_in e c.in-Some-sides.sides.inner,
        sides.0,
        has,
        sides.1,
        goes space e (order_at space c.args.order) c.at.result is_use c.in-Some.lead c.in-Some.is (set_of c.args.tables) outer (joined.0 yes),
      )),
      λ by'. joined.1 (went space e (order_at space c.args.order) c.at.result is_use c.in-Some.lead c.in-Some.is (set_of c.args.tables) outer (subst (λ x. Satisfies space (set_of c.args.tables) (order_at space c.args.order) (ascending x)) (sides.2 by'.0 by'.1 by'.2 by'.4).0 by'.5)),
    )
