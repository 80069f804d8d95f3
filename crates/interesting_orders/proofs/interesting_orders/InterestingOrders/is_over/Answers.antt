use Rattle.std.proofs.Common.{◌≡◌, ◌∙◌, ◌<◌, sym, ap, Some, length, arith}
use Rattle.std.proofs.lemmas.List.Elements.{All-from_recursion, recursion_from_All}
use Rattle.definitions.specs.Plans.Order.{SortKey}
use Rattle.definitions.specs.Plans.Space.{order_at}
use Rattle.definitions.specs.Plans.TableSet.{Has, no_tables}
use Rattle.plan_tree.specs.Sets.{set_of}
use Rattle.interesting_orders.specs.Reach.{key_tables, is_reached}
use Rattle.interesting_orders.proofs.Reaching.{keys_there, there_keys, none_needed}
use Rattle.interesting_orders.proofs.interesting_orders.InterestingOrders.is_over.Goals as goal

pub returns-then-order-len : goal.returns-then-order-len
returns-then-order-len c = λ space u.
    let set = set_of c.args.tables in
    let order = order_at space c.args.order in
    let is : c.are_within.result ≡ is_reached (key_tables (Some no_tables) order) set =
    c.are_within.ensures ∙ ap (λ tables. is_reached tables set) (c.at.ensures.exact space u).tables in
    let within : c.args.order < length space.orders = omega (arith, c.if-order-len.true, c.len.ensures, u.orders.len) in (
      (λ yes. (within, All-from_recursion (λ (key : SortKey). Has set key.column.table) order (keys_there set c.args.tables.few order (Some no_tables) (sym is ∙ yes)).1)),
      λ over. is ∙ there_keys set c.args.tables.few order (Some no_tables) (none_needed set c.args.tables.few) (recursion_from_All (λ (key : SortKey). Has set key.column.table) order over.1),
    )
