use Rattle.std.proofs.Common.{◌∙◌, ◌<◌, List, ap, length, refl, subst, sym, arith}
use Rattle.definitions.specs.Estimates.BlockSpace.{space_of}
use Rattle.definitions.specs.Estimates.Orders.{required_of}
use Rattle.definitions.specs.Plans.Order.{Order}
use Rattle.query_tree.specs.Bound.{block_of}
use Rattle.query_tree.specs.declared.block.Block.{Block}
use Rattle.plan_tree.specs.Plans.{order_of}
use Rattle.plan_tree.specs.Versions.{version_of}
use Rattle.plan_space.specs.Planned.{space_in}
use Rattle.definitions.proofs.EstimateTheory.Complete.{complete}
use Rattle.plan_space.proofs.Facts.{some_orders}
use Rattle.plan_space.proofs.space.Space.new.Goals as goal

pub invariant_of-result : goal.invariant_of-result
unfolding space_in
invariant_of-result c =
    let version = version_of c.args.version in
    let db = c.args.estimate.database in
    let block = block_of c.args.estimate.block in
    let space = space_of version db block in
    let uses = c.in_ok-uses.ensures space (sym c.table_count-tables.ensures.exact) (sym c.conjuncts.ensures.exact)
    (sym c.in_ok-orders.ensures ∙ sym c.all.ensures) (ap (λ (b : Block). required_of (block_of b)) (sym c.block.ensures) ∙ sym c.in_ok-required.ensures ∙ ap order_of (sym c.deref-2.ensures.value)) in
    record {
      complete = complete version db block c.requires;
      count = refl;
      few = omega (arith, c.table_count-tables.ensures.exact, c.table_count-tables.ensures.few);
      orders = c.in_ok-orders.ensures;
      some = subst (λ (orders : List Order). 0 < length orders) (sym c.in_ok-orders.ensures) (some_orders version db block);
      paths = c.in_ok-paths.ensures.paths;
      paths_count = c.in_ok-paths.ensures.tables;
      merges = c.in_ok-merges.ensures.merges version (record { paths = c.in_ok-paths.ensures.paths; uses = uses });
      merges_count = c.in_ok-merges.ensures.tables;
      uses = uses;
    }
