use Rattle.std.proofs.Common.{◌≡◌, ◌-◌, ◌∷◌, ap, List, length, arith, rules}
use Rattle.plan_tree.specs.Sets.{set_of}
use Rattle.interesting_orders.specs.declared.order_use.OrderUse.{OrderUse}
use Rattle.interesting_orders.proofs.Sorting.{sorts_of}
use Rattle.interesting_orders.proofs.interesting_orders.InterestingOrders.sorts.Goals as goal

pub returns-in-Some : goal.returns-in-Some
returns-in-Some c = λ space u.
    let first = c.in-Some.field-0-0.now in
    let rest = c.in-Some.rest.now in
    let all : c.args.self.now.orders.items ≡ first ∷ rest = search rules in
    let one : c.len.result - length rest ≡ 1 = omega (arith, c.len.ensures, ap (λ (xs : List OrderUse). length xs) all) in
    rw c.new.ensures (sorts_of space c.args.self.now u (set_of c.args.tables) c.args.tables.few first rest all (c.len.result - length rest) one)
