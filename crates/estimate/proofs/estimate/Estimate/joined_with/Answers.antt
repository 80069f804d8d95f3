use Rattle.std.proofs.Common.{refl, ap, ◌∙◌, ◌<◌, length, map, arith}
use Rattle.query_tree.specs.Bound.{block_of}
use Rattle.plan_tree.specs.Sets.{set_of}
use Rattle.estimate.specs.Estimated.{Estimated}
use Rattle.estimate.specs.PlanConjuncts.{conjunct_of}
use Rattle.estimate.proofs.Left.{joined_told}
use Rattle.estimate.proofs.Sizes.{rows_told}
use Rattle.estimate.proofs.estimate.Estimate.joined_with.Goals as goal

pub returns-clause-exact : goal.returns-clause-exact
returns-clause-exact c =
    let db = c.self.inside.database.now in
    let b = block_of c.self.inside.block.now in
    let same = ap (λ (e : Estimated). length (block_of e.block).tables) c.self.view_is in
    let within : c.args.table < length c.self.inside.sizes.items = omega (arith, c.requires, c.self.invariant.measured, same) in
    let rows = rows_told db b c.self.inside.sizes.items c.self.inside.tables.items c.args.table c.index.result.now c.self.invariant.tables c.self.invariant.sizes within c.index.ensures in
    let planned = ap (map conjunct_of) c.deref.ensures.value ∙ c.self.invariant.planned in
    rw (← c.self.view_is) (joined_told db b c.deref.result.now planned (set_of c.args.taken) c.args.table c.args.rows c.left_by_completed.result c.saturating_product-product.result c.args.rows c.index.result.now.rows c.left_by_completed.ensures.exact c.saturating_product-product.ensures.exact refl rows)
