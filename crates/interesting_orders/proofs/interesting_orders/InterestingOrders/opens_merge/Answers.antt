use Rattle.std.proofs.Common.{sym, subst}
use Rattle.std.specs.Prelude.{not}
use Rattle.std.specs.Bool.{Decides}
use Rattle.definitions.specs.Plans.Folding.{OpensMerge}
use Rattle.definitions.specs.Plans.Space.{order_at}
use Rattle.plan_tree.specs.Sets.{set_of}
use Rattle.interesting_orders.proofs.Reaching.{opens_or_not}
use Rattle.interesting_orders.proofs.interesting_orders.InterestingOrders.opens_merge.Goals as goal

pub returns : goal.returns
returns c = λ space u.
    let set = set_of c.args.tables in
    let order = order_at space c.args.order in
    subst (λ b. Decides (not b) (OpensMerge space set order)) (sym c.are_within.ensures) (opens_or_not set c.args.tables.few space order c.at.result.partners (c.at.ensures.exact space u).partners)
