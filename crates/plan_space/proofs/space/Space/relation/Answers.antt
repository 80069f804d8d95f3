use Rattle.std.proofs.Common.{subst}
use Rattle.interesting_orders.specs.Uses.{AreUses}
use Rattle.plan_space.specs.Planned.{Planned, space_in}
use Rattle.plan_space.proofs.space.Space.relation.Goals as goal

pub returns-clause-exact : goal.returns-clause-exact
returns-clause-exact c =
    let uses = subst (λ (p : Planned). AreUses (space_in p) c.self.inside.uses) c.self.view_is c.self.invariant.uses in
    record {
      rows = c.cardinality.ensures.exact;
      uses = uses;
      classes = c.classes.ensures (space_in c.args.self.now) uses;
      linked = c.linked.ensures;
    }
