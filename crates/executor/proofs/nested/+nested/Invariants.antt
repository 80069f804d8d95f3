use Rattle.std.proofs.Common.{◌≡◌, length, map, take, ◌+◌, ◌-◌, ◌*◌, ◌++◌, List}
use Rattle.std.specs.Prelude.{sum_by}
use Rattle.std.specs.List.{AllByRecursion}
use Rattle.definitions.specs.Plans.Cost.{saturated}
use Rattle.definitions_execution.specs.OfBlock.{combination_of}
use Rattle.definitions_execution.specs.Stored.{Composite}
use Rattle.operators.specs.Running.{left_of, opened_of, width_of, IsPipeline}
use Rattle.filters.specs.Sources.{block_in}
use Rattle.subqueries.specs.Framed.{combinations_in}
use Rattle.block_answers.specs.BlockRows.{store_in, IsWellFor}
use Rattle.block_answers.specs.KeptRows.{rows_in, TellsKept}
use Rattle.executor.specs.ReadyBlocks.{meanings_in, seen_at, total_at, totals_in, AreLeft, AreRight, IsToldLast}
use Rattle.result_rows.specs.Stores.{kind_of}
use Rattle.executor.proofs.nested.+nested.Given as goal

-- from a block to one behind it there is less to go
abbrev pub decreases-ask_block : goal.decreases-ask_block
decreases-ask_block g l = 5 * (length l.query.now - l.number) + 4

abbrev pub decreases-evaluate_block : goal.decreases-evaluate_block
decreases-evaluate_block g l = 5 * (length l.query.now - l.number) + 3

abbrev pub decreases-try_late : goal.decreases-try_late
decreases-try_late g l = 5 * (length l.query.now - l.number) + 2

abbrev pub decreases-ask_at : goal.decreases-ask_at
decreases-ask_at g l = 5 * (length l.query.now - l.number) + 1

abbrev pub decreases-ask_subqueries : goal.decreases-ask_subqueries
decreases-ask_subqueries g l = 5 * (length l.query.now - l.number)

-- those before one are told, and counted
abbrev pub invariant-ask_subqueries-blocks-2 : goal.invariant-ask_subqueries-blocks-2
invariant-ask_subqueries-blocks-2 g l = record {
  told : AllByRecursion (IsToldLast l.query (seen_at l.query l.number) (combinations_in l.fn.frames) l.results) (take l.block-index l.block-items);
  total : l.work ≡ saturated (sum_by (total_at l.query (combinations_in l.fn.frames)) (take l.block-index l.block-items));
  right : AreRight l.query l.results;
  left : AreLeft l.query (l.number + 1) l.fn.results l.results;
  frames_are : combinations_in l.frames ≡ combinations_in l.fn.frames;
}

-- the composites that were taken are told of, and the totals of their subqueries are counted
abbrev pub invariant-evaluate_block-composites : goal.invariant-evaluate_block-composites
invariant-evaluate_block-composites g l = record {
  taken :
      (composites : List Composite) × (left_of l.initial.pipeline (combinations_in l.fn.frames) ≡ composites ++ left_of l.pipeline (combinations_in l.fn.frames))
      × TellsKept l.ready.source (combinations_in l.fn.frames) (meanings_in l.query) (map (combination_of l.ready.source.database (block_in l.ready.source)) composites) l.rows
      × (l.inner ≡ saturated (sum_by (totals_in l.query (combinations_in l.fn.frames) l.ready) (map (combination_of l.ready.source.database (block_in l.ready.source)) composites)));
  good : IsWellFor l.ready.source (combinations_in l.fn.frames) (rows_in l.rows);
  kind : kind_of (store_in (rows_in l.rows)) ≡ kind_of (store_in (rows_in l.initial.rows));
  right : AreRight l.query l.results;
  left : AreLeft l.query (l.number + 1) l.fn.results l.results;
  frames_are : combinations_in l.frames ≡ combinations_in l.fn.frames;
  pipeline : IsPipeline l.pipeline (combinations_in l.fn.frames);
  width : width_of l.pipeline ≡ length (block_in l.ready.source).tables;
  opened : opened_of l.pipeline (combinations_in l.fn.frames) ≡ opened_of l.initial.pipeline (combinations_in l.fn.frames);
}

abbrev pub decreases-evaluate_block-composites : goal.decreases-evaluate_block-composites
decreases-evaluate_block-composites g l = length (left_of l.pipeline (combinations_in l.fn.frames))
