-- Composites come in the required order.
use Rattle.std.proofs.Common.{sym, subst}
use Rattle.definitions.specs.Plans.Order.{Order}
use Rattle.definitions.specs.Plans.Space.{Space, order_at}
use Rattle.definitions.specs.Plans.PlanSpace.{tables_of, order_of}
use Rattle.definitions.specs.Plans.ColumnClass.{Satisfies}
use Rattle.definitions.specs.Estimates.BlockSpace.{space_of}
use Rattle.definitions.specs.Estimates.Orders.{required_of}
use Rattle.definitions_execution.specs.BlockLaws.{cell_of}
use Rattle.definitions_execution.specs.Lists.{Rises}
use Rattle.definitions_execution.specs.OfBlock.{combination_of, stored_of}
use Rattle.definitions_execution.specs.RowOrder.{NotAfter}
use Rattle.definitions_execution.specs.Stored.{Stored, value_at}
use Rattle.definitions_execution.proofs.BlockFits.{cell_is, fits}
use Rattle.definitions_execution.proofs.Classes.{order_satisfied}
use Rattle.definitions_execution.proofs.Members.{rises_map, rises_weaker}
use Rattle.definitions_execution.proofs.RowOrders.{not_after_same}
use Rattle.definitions_answers.specs.Ordered.{DeliveredAreRequired, LeftAreRequired}
use Rattle.definitions_answers.proofs.Left.{rises_filtered}

pub delivered_are_required : DeliveredAreRequired
delivered_are_required version context block plan composites (is, e) gives given =
    let space : Space = space_of version context.database block in
    let stored : Stored = stored_of context block in
    let order : Order = order_at space (order_of space plan) in
    let satisfied : Satisfies space (tables_of space plan) order space.required = subst (λ s. Satisfies space s order space.required) (sym e) gives in
    let here : Rises (NotAfter (value_at stored) space.required) composites =
    rises_weaker (NotAfter (value_at stored) order) (NotAfter (value_at stored) space.required) composites
    (λ a b i j l. order_satisfied space stored (fits context block version) (tables_of space plan) order space.required a b (given.pass a i) (given.pass b j) satisfied l) given.in_order in
    rises_map (NotAfter (value_at stored) (required_of block)) (NotAfter cell_of (required_of block)) (combination_of context.database block) composites
    (λ a b i j p. not_after_same (value_at stored) cell_of (required_of block) a b (combination_of context.database block a) (combination_of context.database block b)
    (λ k m. sym (cell_is context block k.column a)) (λ k m. sym (cell_is context block k.column b)) p) here

pub left_are_required : LeftAreRequired
left_are_required block test cs h = rises_filtered (NotAfter cell_of (required_of block)) test cs h
