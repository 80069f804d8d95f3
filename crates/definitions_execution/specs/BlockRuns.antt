-- What running a plan of a bound block delivers in given surroundings, and the rows that it opens (own).
use Rattle.std.specs.Prelude.{ℕ, List, map}
use Rattle.definitions.specs.Plans.Plan.{Plan}
use Rattle.definitions.specs.Queries.BoundBlock.{Block}
use Rattle.definitions.specs.Queries.Evaluation.{Combination}
use Rattle.definitions.specs.Queries.Combinations.{Context}
use Rattle.definitions.specs.Estimates.Version.{Version}
use Rattle.definitions.specs.Estimates.BlockSpace.{space_of}
use Rattle.definitions_execution.specs.Running.{delivered, opened, work}
use Rattle.definitions_execution.specs.OfBlock.{combination_of, stored_of}

module _ (version : Version) (context : Context) (block : Block) where
  abbrev pub delivered_combinations : Plan → List Combination
  delivered_combinations plan =
      map (combination_of context.database block)
      (delivered (space_of version context.database block) (stored_of context block) plan)

  abbrev pub rows_opened : Plan → ℕ
  rows_opened plan = opened (space_of version context.database block) (stored_of context block) plan

  abbrev pub plan_work : Plan → ℕ
  plan_work plan = work (space_of version context.database block) (stored_of context block) plan
