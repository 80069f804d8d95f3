use Rattle.std.proofs.Common.{◌≡◌, ◌++◌, List, map, take, false}
use Rattle.std.specs.Prelude.{is_some}
use Rattle.std.specs.List.{AllByRecursion}
use Rattle.definitions.specs.Value.{Value}
use Rattle.definitions.specs.Queries.Grouping.{taken}
use Rattle.definitions_answers.specs.Shapes.{HasShape, IsThere, Shape, Sums}
use Rattle.parse_tree.specs.Trees.{function_of}
use Rattle.query_tree.specs.Bound.{column_of}
use Rattle.grouping.specs.Aggregating.{Aggregates}
use Rattle.grouping.proofs.aggregation.Aggregation.take_cells.Given as goal

-- the values of the rows so far are taken in
abbrev pub invariant-rows : goal.invariant-rows
invariant-rows g l = record {
  function : l.self.running.function ≡ l.fn.self.running.function;
  distinct : is_some l.self.seen ≡ is_some l.fn.self.seen;
  taken :
      (shape : Shape) (vs : List Value) → Sums (function_of l.fn.self.running.function) shape → AllByRecursion (HasShape shape) (map (g.B.RowBatch.value_in l.batch (column_of l.column)) l.rows)
      → AllByRecursion (IsThere shape) vs → Aggregates shape vs l.fn.self → Aggregates shape (vs ++ taken false (map (g.B.RowBatch.value_in l.batch (column_of l.column)) (take l.row-index l.rows))) l.self;
}
