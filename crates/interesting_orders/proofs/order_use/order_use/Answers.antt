use Rattle.std.proofs.Common.{refl, sym, subst}
use Rattle.std.specs.Bool.{Decides}
use Rattle.std.specs.Prelude.{option_map}
use Rattle.definitions.specs.Plans.ColumnClass.{Satisfies}
use Rattle.definitions.specs.Plans.Order.{Order}
use Rattle.definitions.specs.Plans.Space.{whole}
use Rattle.plan_tree.specs.Plans.{order_of}
use Rattle.plan_tree.specs.Sets.{set_of}
use Rattle.interesting_orders.proofs.Partners.{partners_of}
use Rattle.interesting_orders.proofs.order_use.order_use.Goals as goal

pub returns-clause-exact : goal.returns-clause-exact
returns-clause-exact c = λ space e classes is_required.
    let order = order_of c.args.order.now in
    record {
      lead = c.lead-lead.ensures.exact;
      tables = c.order_tables.ensures;
      partners = partners_of space c.args.equated.now (whole space) order c.lead-lead.result (option_map set_of c.partners.result) e refl c.lead-lead.ensures.exact (c.partners.ensures space (whole space) e classes);
      gives = subst (λ (r : Order). Decides c.satisfies.result (Satisfies space (whole space) order r)) (sym is_required) (c.satisfies.ensures space (whole space) e classes);
    }
