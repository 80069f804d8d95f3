use Rattle.std.proofs.Common.{◌≡◌, ℕ, ◌+◌, ◌++◌, [], List, length, map}
use Rattle.definitions.specs.Arithmetic.{Meaning}
use Rattle.definitions.specs.Queries.Evaluation.{Combination}
use Rattle.definitions.specs.Table.{Row}
use Rattle.definitions_execution.specs.OfBlock.{combination_of}
use Rattle.definitions_execution.specs.Stored.{Composite}
use Rattle.operators.specs.Running.{left_of, opened_of, opened_so_far, width_of, IsPipeline}
use Rattle.result_rows.specs.Stores.{kind_of}
use Rattle.filters.specs.Sources.{block_in}
use Rattle.block_answers.specs.BlockRows.{store_in, IsWellFor}
use Rattle.block_answers.specs.KeptRows.{rows_in, TellsKept}
use Rattle.executor.proofs.alone.keep_batches.Given as goal

-- the batches that were taken are told of, and where none is at hand none is to come
abbrev pub invariant-batches : goal.invariant-batches
invariant-batches g l = record {
  taken :
      (done : List Composite) × (left_of l.fn.pipeline (g.A.OuterRows.combinations l.around) ≡ done ++ (l.batch.items ++ left_of l.pipeline (g.A.OuterRows.combinations l.around)))
      × ((inner : ℕ → List Combination → Meaning (List Row)) → TellsKept l.ready.source (g.A.OuterRows.combinations l.around) inner [] l.fn.rows
      → TellsKept l.ready.source (g.A.OuterRows.combinations l.around) inner (map (combination_of l.ready.source.database (block_in l.ready.source)) done) l.rows);
  none : l.batch.items ≡ [] → left_of l.pipeline (g.A.OuterRows.combinations l.around) ≡ [];
  wide : l.batch.width ≡ length (block_in l.ready.source).tables;
  well : IsWellFor l.ready.source (g.A.OuterRows.combinations l.around) (rows_in l.rows);
  kind : kind_of (store_in (rows_in l.rows)) ≡ kind_of (store_in (rows_in l.fn.rows));
  pipeline : IsPipeline l.pipeline (g.A.OuterRows.combinations l.around);
  width : width_of l.pipeline ≡ width_of l.fn.pipeline;
  opened : opened_of l.pipeline (g.A.OuterRows.combinations l.around) ≡ opened_of l.fn.pipeline (g.A.OuterRows.combinations l.around);
  spent : l.batch.items ≡ [] → opened_so_far l.pipeline ≡ opened_of l.pipeline (g.A.OuterRows.combinations l.around);
}

abbrev pub decreases-batches : goal.decreases-batches
decreases-batches g l = length l.batch.items + length (left_of l.pipeline (g.A.OuterRows.combinations l.around))
