use Rattle.std.proofs.Common.{◌∙◌, ◌<◌, sym, ap, length, arith}
use Rattle.query_tree.specs.Bound.{block_of}
use Rattle.plan_tree.specs.Sets.{set_of}
use Rattle.estimate.proofs.Members.{next_joined, same_joined}
use Rattle.estimate.proofs.estimate.Estimate.cardinality.Goals as goal
use Rattle.estimate.proofs.estimate.Estimate.cardinality.Goals.{then-has, else-has}

pub tables-preserved : goal.tables-preserved
tables-preserved c =
    let db = c.args.self.now.database in
    let b = block_of c.args.self.now.block in
    let tables = set_of c.args.tables in
    let table = c.tables.table in
    let within : table < length b.tables = omega (arith, c.tables-test.true, c.table_count-table-end.ensures.exact) in
    elim c.if-has.branch [
      | then-has w ↦ rw w.rows-is (record {
        exact = next_joined db b tables table (length b.tables) within (set_of c.tables.taken) (set_of c.if-has.taken) c.tables.rows w.joined_with-rows.result (sym c.has.ensures ∙ w.if-has.true) (ap set_of w.taken-is ∙ w.with-taken.ensures) w.joined_with-rows.ensures.exact ∙ c.tables.invariant.exact;
        below = w.joined_with-rows.ensures.below;
      })
      | else-has w ↦ rw (w.rows-is, w.taken-is) (record {
        exact = same_joined db b tables table (length b.tables) within (set_of c.tables.taken) c.tables.rows (sym c.has.ensures ∙ w.if-has.false) ∙ c.tables.invariant.exact;
        below = c.tables.invariant.below;
      })
    ]
