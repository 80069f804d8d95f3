use Rattle.std.proofs.Common.{◌∙◌, ap, List}
use Rattle.std.specs.List.{list_all}
use Rattle.definitions.specs.Estimates.BlockTables.{has}
use Rattle.plan_tree.specs.declared.order.SortKey.{SortKey}
use Rattle.plan_tree.specs.Sets.{set_of}
use Rattle.certificate.proofs.Over.{over_decided}
use Rattle.certificate.proofs.states.is_over.Goals as goal

pub returns-in-Some : goal.returns-in-Some
returns-in-Some c =
    let got = c.in-Some.ensures.lookup in
    over_decided c.args.block.now.orders.now (set_of c.args.tables) c.args.order c.in-Some.keys.now c.are_over.result got.3.0 got.1
    (c.are_over.ensures ∙ ap (λ (keys : List SortKey). list_all (λ (key : SortKey). has (set_of c.args.tables) key.column.table) keys) c.as_slice.ensures.value)
