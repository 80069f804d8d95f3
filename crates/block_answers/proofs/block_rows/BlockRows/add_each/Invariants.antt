use Rattle.std.proofs.Common.{◌≡◌, ◌++◌, List, map, take}
use Rattle.definitions.specs.Queries.Evaluation.{Combination}
use Rattle.definitions_execution.specs.OfBlock.{combination_of}
use Rattle.filters.specs.Sources.{block_in}
use Rattle.result_rows.specs.Stores.{kind_of}
use Rattle.block_answers.specs.BlockRows.{store_in, IsWellFor, TellsOf}
use Rattle.block_answers.specs.Groups.{AreTyped}
use Rattle.block_answers.proofs.block_rows.BlockRows.add_each.Given as goal

-- those before a place are told of
abbrev pub invariant-places : goal.invariant-places
invariant-places g l = record {
  well : IsWellFor l.source (g.A.OuterRows.combinations l.around) l.self;
  told : (cs : List Combination) → AreTyped l.source (g.A.OuterRows.combinations l.around) cs → TellsOf l.source (g.A.OuterRows.combinations l.around) cs l.fn.self
      → TellsOf l.source (g.A.OuterRows.combinations l.around) (cs ++ map (combination_of l.source.database (block_in l.source)) (take l.place l.batch.items)) l.self;
  kind : kind_of (store_in l.self) ≡ kind_of (store_in l.fn.self);
}
