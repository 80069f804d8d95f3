use Rattle.std.proofs.Common.{◌∙◌, ◌<◌, sym, length, arith}
use Rattle.query_tree.specs.Bound.{block_of}
use Rattle.plan_tree.specs.Sets.{set_of}
use Rattle.estimate.proofs.Members.{next_width, same_width}
use Rattle.estimate.proofs.Sizes.{width_told}
use Rattle.estimate.proofs.estimate.Estimate.width.Goals as goal
use Rattle.estimate.proofs.estimate.Estimate.width.Goals.{then-has, else-has}

pub tables-preserved : goal.tables-preserved
tables-preserved c =
    let db = c.self.inside.database.now in
    let b = block_of c.self.inside.block.now in
    let sizes = c.self.inside.sizes.items in
    let tables = set_of c.args.tables in
    let table = c.tables.table in
    let within : table < length sizes = omega (arith, c.tables-test.true, c.len-table-end.ensures) in
    elim c.if-has.branch [
      | then-has w ↦
          let own = width_told db b sizes c.self.inside.tables.items table w.index.result.now c.self.invariant.tables c.self.invariant.sizes within w.index.ensures in
          rw w.width-is (record {
            exact = next_width db b tables table (length sizes) within c.tables.width w.index.result.now.width (sym c.has.ensures ∙ w.if-has.true) own ∙ c.tables.invariant.exact;
            below = omega (arith, w.index.result.now.narrow, c.tables.invariant.below);
          })
      | else-has w ↦ rw w.width-is (record {
        exact = same_width db b tables table (length sizes) within c.tables.width (sym c.has.ensures ∙ w.if-has.false) ∙ c.tables.invariant.exact;
        below = omega (arith, c.tables.invariant.below);
      })
    ]
