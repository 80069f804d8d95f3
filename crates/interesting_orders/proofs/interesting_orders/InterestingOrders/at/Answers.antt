use Rattle.std.proofs.Common.{◌≤◌, refl, sym, ap, subst, [], Some, length, arith}
use Rattle.std.proofs.lemmas.List.{get_or_past}
use Rattle.definitions.specs.Plans.Space.{order_at}
use Rattle.interesting_orders.specs.Uses.{IsUse}
use Rattle.interesting_orders.specs.declared.order_use.OrderUse.{OrderUse}
use Rattle.interesting_orders.proofs.Numbered.{numbered, unnumbered}
use Rattle.interesting_orders.proofs.interesting_orders.InterestingOrders.at.Goals as goal

pub returns-in-Some-clause-exact : goal.returns-in-Some-clause-exact
returns-in-Some-clause-exact c = λ space u.
    let lookup = rw c.deref.ensures.value at c.in-Some.ensures.lookup in
    let found = c.in-Some.found.now in
    subst (λ (d : OrderUse). IsUse space c.args.self.now.equated (order_at space c.args.order) d) (sym (lookup.3.1 found)) (numbered space c.args.self.now c.args.order found u lookup.3.0)

pub returns-in-None-clause-exact : goal.returns-in-None-clause-exact
returns-in-None-clause-exact c = λ space u.
    let lookup = rw c.deref.ensures.value at c.in-None.ensures.lookup in
    let beyond : length space.orders ≤ c.args.order = omega (arith, lookup.3, u.orders.len) in
    unnumbered space c.args.self.now.equated c.args.self.now.asked (order_at space c.args.order) _ (get_or_past space.orders c.args.order [] beyond) refl (ap (λ s. Some s) c.none.ensures) (ap (λ s. Some s) c.none-in-None.ensures) refl u.asked
