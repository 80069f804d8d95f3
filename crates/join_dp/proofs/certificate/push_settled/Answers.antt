use Rattle.std.proofs.Common.{◌≡◌, ◌∙◌, ◌++◌, [], ◌∷◌, map, ap, sym, subst, arith}
use Rattle.std.proofs.lemmas.List.{map-append}
use Rattle.plan_tree.specs.Certificates.{state_of}
use Rattle.plan_tree.specs.Sets.{set_of}
use Rattle.join_dp.specs.Listing.{states_of}
use Rattle.join_dp.specs.StateCosts.{costs_of}
use Rattle.join_dp.proofs.SettledStates.{none_of_set, none_settled, order_settled, order_passed}
use Rattle.join_dp.proofs.certificate.push_settled.Goals as goal
use Rattle.join_dp.proofs.certificate.push_settled.Goals.{then-is_settled+in_ok-push, else-is_settled}

pub returns-then-not-has_row : goal.returns-then-not-has_row
returns-then-not-has_row c = none_settled (costs_of c.args.costs.now) (set_of c.args.tables) (map state_of c.args.settled.now.items) c.args.costs.now.orders (c.has_row.ensures.none c.if-not-has_row.true)

pub orders-init : goal.orders-init
orders-init c = none_of_set (costs_of c.args.costs.now) (set_of c.args.tables) (map state_of c.args.settled.now.items)

pub orders-preserved : goal.orders-preserved
orders-preserved c =
    let costs = costs_of c.args.costs.now in
    let old = map state_of c.args.settled.now.items in
    elim c.if-is_settled.branch [
      | then-is_settled+in_ok-push w ↦
          rw w.settled-is (ap (map state_of) w.in_ok-push.ensures.items ∙ map-append state_of c.orders.settled.items (_ ∷ [])
          ∙ order_settled costs (set_of c.args.tables) c.orders.order (map state_of c.orders.settled.items) old _ (ap (λ n. record { tables = set_of c.args.tables; order = c.orders.order; cost = n }) w.cost.ensures) (sym c.is_settled.ensures ∙ w.if-is_settled.true) c.orders.invariant)
      | else-is_settled w ↦
          rw w.settled-is (order_passed costs (set_of c.args.tables) c.orders.order (map state_of c.orders.settled.items) old (sym c.is_settled.ensures ∙ w.if-is_settled.false) c.orders.invariant)
    ]

pub returns : goal.returns
returns c =
    let e : c.orders.order ≡ c.args.costs.now.orders = omega (arith, c.orders-test.false, c.orders.auto.order-end, c.requires.orders) in
    subst (λ n. map state_of c.orders.settled.items ≡ map state_of c.args.settled.now.items ++ states_of (costs_of c.args.costs.now) (set_of c.args.tables) n) e c.orders.invariant
