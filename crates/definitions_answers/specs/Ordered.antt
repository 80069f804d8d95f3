-- The order in which composites come, whatever breaks their ties.
use Rattle.std.specs.Prelude.{Bool, List, filter, map}
use Rattle.definitions.specs.Plans.Plan.{Plan}
use Rattle.definitions.specs.Plans.Space.{order_at}
use Rattle.definitions.specs.Plans.PlanSpace.{tables_of, order_of, InSpace, GivesRequired}
use Rattle.definitions.specs.Queries.BoundBlock.{Block}
use Rattle.definitions.specs.Queries.Evaluation.{Combination}
use Rattle.definitions.specs.Queries.Combinations.{Context}
use Rattle.definitions.specs.Estimates.Orders.{required_of}
use Rattle.definitions.specs.Estimates.Version.{Version}
use Rattle.definitions.specs.Estimates.BlockSpace.{space_of}
use Rattle.definitions_execution.specs.BlockLaws.{cell_of}
use Rattle.definitions_execution.specs.Delivery.{Delivers}
use Rattle.definitions_execution.specs.Lists.{Rises}
use Rattle.definitions_execution.specs.OfBlock.{combination_of, stored_of}
use Rattle.definitions_execution.specs.RowOrder.{NotAfter}
use Rattle.definitions_execution.specs.Stored.{Composite}

abbrev pub AreRequired : Block → List Combination → Type 0
AreRequired block cs = Rises (NotAfter cell_of (required_of block)) cs

-- what a plan delivers that gives the required order comes in it, as combinations
abbrev pub DeliveredAreRequired : Type 0
DeliveredAreRequired =
    (version : Version) (context : Context) (block : Block) (plan : Plan) (composites : List Composite)
    → InSpace (space_of version context.database block) plan
    → GivesRequired (space_of version context.database block) plan
    → Delivers (space_of version context.database block) (stored_of context block)
    (tables_of (space_of version context.database block) plan)
    (order_at (space_of version context.database block)
    (order_of (space_of version context.database block) plan)) composites
    → AreRequired block (map (combination_of context.database block) composites)

-- and what is left of them by a test does too
abbrev pub LeftAreRequired : Type 0
LeftAreRequired =
    (block : Block) (test : Combination → Bool) (cs : List Combination) → AreRequired block cs
    → AreRequired block (filter test cs)
