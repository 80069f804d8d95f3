use Rattle.std.proofs.Common.{◌∙◌, ◌++◌, sym, ap, subst, append_assoc, false, map, take}
use Rattle.definitions.specs.Queries.Grouping.{taken}
use Rattle.parse_tree.specs.Trees.{function_of}
use Rattle.definitions_answers.specs.Shapes.{Sums}
use Rattle.query_tree.specs.Bound.{column_of}
use Rattle.sqlvalue.specs.Meaning.{value_of}
use Rattle.grouping.specs.Aggregating.{Aggregates}
use Rattle.grouping.proofs.Cells.{cell_shaped, cells_more, there_before}
use Rattle.grouping.proofs.aggregation.Aggregation.take_cells.Goals as goal

pub rows-preserved : goal.rows-preserved
rows-preserved g c =
    let value_in = g.B.RowBatch.value_in c.args.batch.now (column_of c.args.column) in
    let rows = c.args.rows.now in
    let i = c.rows.row-index in
    let v = value_of c.cell.result in
    record {
      function = c.in_ok-take.ensures.function ∙ c.rows.invariant.function;
      distinct = c.in_ok-take.ensures.distinct ∙ c.rows.invariant.distinct;
      taken = λ shape vs sums has all before.
          let here = cell_shaped value_in shape rows i v c.rows-test.true c.cell.ensures has in
          subst (λ ws. Aggregates shape ws c.take.new.self) (append_assoc vs (taken false (map value_in (take i rows))) _ ∙ ap (λ ws. vs ++ ws) (sym (cells_more value_in rows i v c.rows-test.true c.cell.ensures)))
          (c.in_ok-take.ensures.taken shape (vs ++ taken false (map value_in (take i rows))) (subst (λ f. Sums (function_of f) shape) (sym c.rows.invariant.function) sums) here (there_before value_in shape vs i rows all has) (c.rows.invariant.taken shape vs sums has all before));
    }
