-- What holds of inner blocks: when two evaluations of one are the same, and what an evaluation may leave out.
use Rattle.std.specs.Prelude.{ℕ, ◌≡◌, List, []}
use Rattle.definitions.specs.Table.{Database, Row}
use Rattle.definitions.specs.Arithmetic.{Meaning}
use Rattle.definitions.specs.Plans.Plan.{Plan}
use Rattle.definitions.specs.Plans.PlanSpace.{InSpace}
use Rattle.definitions.specs.Queries.BoundBlock.{Block, Blocks}
use Rattle.definitions.specs.Queries.Evaluation.{Combination}
use Rattle.definitions.specs.Queries.Combinations.{passing}
use Rattle.definitions.specs.Queries.Answer.{meanings}
use Rattle.definitions.specs.Estimates.Version.{Version}
use Rattle.definitions.specs.Estimates.BlockSpace.{space_of}
use Rattle.definitions_execution.specs.BlockRuns.{plan_work}
use Rattle.definitions_execution.specs.Total.{totals}
use Rattle.definitions_answers.specs.Parameters.{parameters, outer_values}

-- in surroundings that give its parameters equal values, a block means the same, and its total is the same under any
-- plans
abbrev pub MeaningGoesByParameters : Type 0
MeaningGoesByParameters = (db : Database) (blocks : Blocks) (k : ℕ) (outer outer' : List Combination)
    → outer_values outer (parameters blocks k) ≡ outer_values outer' (parameters blocks k)
    → meanings db 0 blocks k outer ≡ meanings db 0 blocks k outer'

abbrev pub TotalGoesByParameters : Type 0
TotalGoesByParameters =
    (version : Version) (db : Database) (blocks : Blocks) (plans : List Plan) (k : ℕ) (outer outer' : List Combination)
    → outer_values outer (parameters blocks k) ≡ outer_values outer' (parameters blocks k)
    → totals version db 0 blocks plans k outer ≡ totals version db 0 blocks plans k outer'

-- so a block without parameters means the same everywhere
abbrev pub UncorrelatedMeansOne : Type 0
UncorrelatedMeansOne =
    (db : Database) (blocks : Blocks) (k : ℕ) (outer outer' : List Combination) → parameters blocks k ≡ []
    → meanings db 0 blocks k outer ≡ meanings db 0 blocks k outer'

-- early conjuncts ask for no inner block: whatever these mean, the same combinations pass, and a plan's work is the
-- same
abbrev pub PassingAsksNoInnerBlock : Type 0
PassingAsksNoInnerBlock =
    (db : Database) (outer : List Combination) (inner inner' : ℕ → List Combination → Meaning (List Row)) (b : Block)
    → passing (record { database = db; outer = outer; inner = inner }) b ≡ passing (record {
      database = db;
      outer = outer;
      inner = inner';
    }) b

abbrev pub WorkAsksNoInnerBlock : Type 0
WorkAsksNoInnerBlock =
    (version : Version) (db : Database) (outer : List Combination) (inner inner' : ℕ → List Combination
    → Meaning (List Row)) (b : Block) (plan : Plan) → InSpace (space_of version db b) plan
    → plan_work version (record {
      database = db;
      outer = outer;
      inner = inner;
    }) b plan ≡ plan_work version (record { database = db; outer = outer; inner = inner' }) b plan
