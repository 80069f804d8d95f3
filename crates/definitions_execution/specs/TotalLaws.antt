-- What holds of totals: how code may count them, block by block.
use Rattle.std.specs.Prelude.{ℕ, ◌+◌, ◌<◌, ◌≡◌, List, drop, slice_get, Some}
use Rattle.definitions.specs.Table.{Database}
use Rattle.definitions.specs.Plans.Plan.{Plan}
use Rattle.definitions.specs.Plans.PlanSpace.{InSpace}
use Rattle.definitions.specs.Queries.BoundBlock.{Block, Blocks}
use Rattle.definitions.specs.Queries.Evaluation.{Combination}
use Rattle.definitions.specs.Queries.Combinations.{Context}
use Rattle.definitions.specs.Queries.Answer.{meanings}
use Rattle.definitions.specs.Estimates.Version.{Version}
use Rattle.definitions.specs.Estimates.BlockSpace.{space_of}
use Rattle.definitions_execution.specs.OfBlock.{NamesOwnTables}
use Rattle.definitions_execution.specs.Total.{BlockWork, block_total, totals, counted_total}

-- what is counted over what a plan delivers is the block's total
abbrev pub CountedIsTotal : Type 0
CountedIsTotal =
    (version : Version) (context : Context) (block : Block) (plan : Plan) (total : ℕ → BlockWork) → NamesOwnTables block
    → InSpace (space_of version context.database block) plan
    → counted_total version context block plan total ≡ block_total version context block plan total

-- a block's total goes by the blocks behind it
abbrev pub TotalsGoByThoseBehind : Type 0
TotalsGoByThoseBehind =
    (version : Version) (db : Database) (blocks : Blocks) (plans : List Plan) (k : ℕ) (b : Block) (p : Plan)
    (outer : List Combination) → slice_get blocks k ≡ Some b → slice_get plans k ≡ Some p
    → totals version db 0 blocks plans k outer
    ≡ block_total version (record {
      database = db;
      outer = outer;
      inner = meanings db (k + 1) (drop (k + 1) blocks);
    }) b p
    (totals version db (k + 1) (drop (k + 1) blocks) (drop (k + 1) plans))

-- and these have there the totals that they have among all
abbrev pub TotalsBehindAreTheSame : Type 0
TotalsBehindAreTheSame = (version : Version) (db : Database) (blocks : Blocks) (plans : List Plan) (k j : ℕ) → k < j
    → totals version db (k + 1) (drop (k + 1) blocks) (drop (k + 1) plans) j ≡ totals version db 0 blocks plans j
