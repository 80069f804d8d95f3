-- What a block means, and its total, by one step: what code may follow, block by block.
use Rattle.std.specs.Prelude.{ℕ, ◌+◌, ◌<◌, ◌≡◌, List, [], ◌∷◌, Some, slice_get, sum_by, IsPermutation}
use Rattle.std.specs.List.{AllByRecursion}
use Rattle.definitions.specs.Table.{Database}
use Rattle.definitions.specs.Arithmetic.{Is}
use Rattle.definitions.specs.Plans.Cost.{saturated}
use Rattle.definitions.specs.Plans.Plan.{Plan}
use Rattle.definitions.specs.Plans.PlanSpace.{InSpace}
use Rattle.definitions.specs.Queries.BoundBlock.{Block, Blocks}
use Rattle.definitions.specs.Queries.Evaluation.{Combination}
use Rattle.definitions.specs.Queries.Combinations.{Context, passing}
use Rattle.definitions.specs.Queries.Answer.{block_answer, meanings}
use Rattle.definitions.specs.Binding.Formed.{IsFormedBlock}
use Rattle.definitions.specs.Estimates.Version.{Version}
use Rattle.definitions.specs.Estimates.BlockSpace.{space_of}
use Rattle.definitions_execution.specs.BlockRuns.{plan_work}
use Rattle.definitions_execution.specs.Total.{subqueries, totals}
use Rattle.definitions_answers.specs.Parameters.{asked_blocks}

-- a block asks for blocks behind it alone
abbrev pub AsksBehind : ℕ → Block → Type 0
AsksBehind k b = AllByRecursion (λ j. k < j) (asked_blocks b)

abbrev pub FormedBlocksAskBehind : Type 0
FormedBlocksAskBehind =
    (db : Database) (blocks around : Blocks) (n : ℕ) (b : Block) → IsFormedBlock db blocks around n b → AsksBehind n b

-- the surroundings of a block of a statement, and those in which no inner block is asked for
abbrev pub context_among : Database → Blocks → List Combination → Context
context_among db blocks outer = record { database = db; outer = outer; inner = meanings db 0 blocks }

abbrev pub context_alone : Database → List Combination → Context
context_alone db outer = record { database = db; outer = outer; inner = λ block combinations. Is [] }

abbrev pub MeaningByOneStep : Type 0
MeaningByOneStep =
    (db : Database) (blocks : Blocks) (k : ℕ) (b : Block) (outer : List Combination) → slice_get blocks k ≡ Some b
    → AsksBehind k b
    → meanings db 0 blocks k outer ≡ block_answer (context_among db blocks outer) b

abbrev pub PassingByOneStep : Type 0
PassingByOneStep =
    (db : Database) (blocks : Blocks) (b : Block) (outer : List Combination)
    → passing (context_among db blocks outer) b ≡ passing (context_alone db outer) b

-- the totals of a block's subqueries at a combination
abbrev pub totals_at : Version → Database → Blocks → List Plan → Block → List Combination → Combination → ℕ
totals_at version db blocks plans b outer c =
    sum_by (λ j. totals version db 0 blocks plans j (c ∷ outer)) (subqueries b)

-- the work of the block's plan, which asks for no inner block, and those totals at each combination that passes, in
-- whatever order these come
abbrev pub TotalByOneStep : Type 0
TotalByOneStep =
    (version : Version) (db : Database) (blocks : Blocks) (plans : List Plan) (k : ℕ) (b : Block) (p : Plan)
    (outer all : List Combination) → slice_get blocks k ≡ Some b → slice_get plans k ≡ Some p → AsksBehind k b
    → InSpace (space_of version db b) p → IsPermutation (passing (context_alone db outer) b) all
    → totals version db 0 blocks plans k outer
    ≡ saturated (plan_work version (context_alone db outer) b p + sum_by
    (totals_at version db blocks plans b outer) all)
