use Rattle.std.proofs.Common.{subst}
use Rattle.std.specs.Bool.{Decides}
use Rattle.definitions.specs.Plans.ColumnClass.{Satisfies}
use Rattle.definitions.specs.Plans.Order.{Order}
use Rattle.definitions.specs.Plans.Space.{order_at}
use Rattle.plan_tree.specs.Plans.{order_of}
use Rattle.plan_tree.specs.Sets.{set_of}
use Rattle.interesting_orders.specs.Uses.{AreUses}
use Rattle.plan_space.specs.Planned.{Planned, space_in}
use Rattle.plan_space.proofs.space.Space.satisfies.Goals as goal

pub returns : goal.returns
returns c =
    let space = space_in c.args.self.now in
    let tables = set_of c.args.tables in
    let uses = subst (λ (p : Planned). AreUses (space_in p) c.self.inside.uses) c.self.view_is c.self.invariant.uses in
    let says = c.satisfies.ensures space tables uses (c.classes-classes.ensures space uses) in
    subst (λ (wanted : Order). Decides c.satisfies.result (Satisfies space tables (order_at space c.args.order) wanted)) c.keys-2.ensures
    (subst (λ (order : Order). Decides c.satisfies.result (Satisfies space tables order (order_of c.keys-2.result.now))) c.keys.ensures says)
