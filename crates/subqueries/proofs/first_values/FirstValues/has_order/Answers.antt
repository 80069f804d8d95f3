use Rattle.std.proofs.Common.{◌≡◌, ◌-◌, ◌<◌, arith}
use Rattle.sqlvalue.specs.Meaning.{value_of}
use Rattle.sqlvalue.specs.Owned.{owned_value}
use Rattle.subqueries.specs.Comparing.{HasOrder, HasOrderAt}
use Rattle.subqueries.specs.FirstValues.{values_in}
use Rattle.subqueries.proofs.OrderedValues.{equal_at, greater_at, less_at, there_at}
use Rattle.subqueries.proofs.first_values.FirstValues.has_order.Goals as goal

pub returns-in-Less : goal.returns-in-Less
returns-in-Less c =
    let v = value_of c.args.value.now in
    let own = c.args.self.now in
    let order = c.args.order in
    let place = c.count_through.result in
    let nearest : HasOrder order v (values_in own) → HasOrderAt place order v (values_in own) = rw c.in-Less.is (less_at v owned_value own.values.items own.sorted place c.count_through.ensures) in
    (λ yes. there_at v order (values_in own) place (c.has_order_at.ensures.0 yes), λ has. c.has_order_at.ensures.1 (nearest has))

pub returns-in-Equal : goal.returns-in-Equal
returns-in-Equal c =
    let v = value_of c.args.value.now in
    let own = c.args.self.now in
    let order = c.args.order in
    let place = c.count_before.result in
    let nearest : HasOrder order v (values_in own) → HasOrderAt place order v (values_in own) = rw c.in-Equal.is (equal_at v owned_value own.values.items own.sorted place c.count_before.ensures.point) in
    (λ yes. there_at v order (values_in own) place (c.has_order_at-in-Equal.ensures.0 yes), λ has. c.has_order_at-in-Equal.ensures.1 (nearest has))

pub returns-in-Some : goal.returns-in-Some
returns-in-Some c =
    let v = value_of c.args.value.now in
    let own = c.args.self.now in
    let order = c.args.order in
    let before = c.count_before-in-Greater in
    let last : c.in-Some.last ≡ before.result - 1 = c.in-Some.ensures.1 in
    let nearest : HasOrder order v (values_in own) → HasOrderAt c.in-Some.last order v (values_in own) = rw (c.in-Greater.is, last) (λ has. (greater_at v owned_value own.values.items own.sorted before.result before.ensures.within before.ensures.point has).1) in
    (λ yes. there_at v order (values_in own) c.in-Some.last (c.has_order_at-in-Some.ensures.0 yes), λ has. c.has_order_at-in-Some.ensures.1 (nearest has))

pub returns-in-None : goal.returns-in-None
returns-in-None c =
    let v = value_of c.args.value.now in
    let own = c.args.self.now in
    let before = c.count_before-in-Greater in
    let some : HasOrder c.args.order v (values_in own) → 0 < before.result = rw c.in-Greater.is (λ has. (greater_at v owned_value own.values.items own.sorted before.result before.ensures.within before.ensures.point has).0) in
    (λ yes. absurd cc, λ has. absurd (c.in-None.ensures (omega (arith, some has))))
