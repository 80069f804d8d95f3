use Rattle.std.proofs.Common.{◌≡◌, ◌+◌, refl}
use Rattle.definitions.specs.Plans.Cost.{saturated}
use Rattle.plan_space.specs.InterestingOrders.Sorts.{AreSorts}
use Rattle.plan_space.specs.Planned.{space_in}
use Rattle.plan_tree.specs.Certificates.{state_of, certificate_of}
use Rattle.cert_check.specs.Checks.{IsSortFrom}
use Rattle.cert_check.proofs.Comparing.{sum_is}
use Rattle.cert_check.proofs.SortRule.{SortBy, sort_with, is_sort, one_is, sort_apart, sort_of_item, item_of_sort}
use Rattle.cert_check.proofs.Handing.{begins, goes_on, stops, item_more, item_stops, ends}
use Rattle.cert_check.proofs.sorts.compare_sorts_from.Goals as goal

pub orders-init : goal.orders-init
orders-init g c =
    let space = space_in c.args.space.now in
    let from = state_of c.args.from in
    rw c.into_iter-into-iterator.ensures.into_iter_gives (begins g.L.Listener.hears (SortBy space (certificate_of c.args.certificate.now) from) (AreSorts space from.tables) _ _ c.sorts-into-items.ensures)

pub orders-preserved : goal.orders-preserved
orders-preserved g c =
    let space = space_in c.args.space.now in
    let certificate = certificate_of c.args.certificate.now in
    let from = state_of c.args.from in
    let into = c.in-Some.into in
    let x = sort_with space certificate from into c.fold-order.result c.cost_from-cost.result.number c.bound.result in
    let cost : c.cost_from-cost.result.number ≡ saturated (from.cost + space.sort_cost from.tables) = sum_is _ _ _ _ _ c.cost_from-cost.ensures refl c.sort_cost.ensures in
    item_more g.L.Listener.hears (SortBy space certificate from) (AreSorts space from.tables) _ _ _ _ _ into c.in-Some.ensures.steps c.orders.invariant
    (λ done are. sort_apart space certificate from done _ into are) (goes_on g.L.Listener.hears (SortBy space certificate from into) _ _ x c.if-not-hear.ensures
    (is_sort space certificate from into c.fold-order.result c.cost_from-cost.result.number c.bound.result cost c.bound.ensures c.fold-order.ensures.exact)
    (one_is space certificate from into c.fold-order.result c.cost_from-cost.result.number c.bound.result cost c.bound.ensures c.fold-order.ensures.exact))

pub returns-then-not-hear : goal.returns-then-not-hear
returns-then-not-hear g c =
    let space = space_in c.args.space.now in
    let certificate = certificate_of c.args.certificate.now in
    let from = state_of c.args.from in
    let into = c.in-Some.into in
    let x = sort_with space certificate from into c.fold-order.result c.cost_from-cost.result.number c.bound.result in
    let cost : c.cost_from-cost.result.number ≡ saturated (from.cost + space.sort_cost from.tables) = sum_is _ _ _ _ _ c.cost_from-cost.ensures refl c.sort_cost.ensures in
    item_stops g.L.Listener.hears (SortBy space certificate from) (AreSorts space from.tables) _ _ _ _ _ into c.in-Some.ensures.steps c.orders.invariant
    (λ done are. sort_apart space certificate from done _ into are) (IsSortFrom space certificate from) x (sort_of_item space certificate from)
    (stops g.L.Listener.hears (SortBy space certificate from into) _ _ x c.if-not-hear.ensures
    (is_sort space certificate from into c.fold-order.result c.cost_from-cost.result.number c.bound.result cost c.bound.ensures c.fold-order.ensures.exact))

pub returns : goal.returns
returns g c =
    let space = space_in c.args.space.now in
    let certificate = certificate_of c.args.certificate.now in
    let from = state_of c.args.from in
    ends g.L.Listener.hears (SortBy space certificate from) (AreSorts space from.tables) (IsSortFrom space certificate from) _ _ _ c.in-None.ensures.steps.0 c.orders.invariant (sort_of_item space certificate from) (item_of_sort space certificate from)
