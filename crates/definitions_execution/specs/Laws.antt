-- What holds of every plan of a space that fits what is stored, each proved as the contract of a function that has no
-- code.
use Rattle.std.specs.Prelude.{ℕ, ◌+◌, ◌≡◌, IsPermutation}
use Rattle.definitions.specs.Plans.Plan.{Inner, Plan, Merge}
use Rattle.definitions.specs.Plans.Space.{Space, order_at}
use Rattle.definitions.specs.Plans.PlanSpace.{tables_of, order_of, IsPlan, InSpace, GivesRequired}
use Rattle.definitions.specs.Plans.Cost.{saturated}
use Rattle.definitions_execution.specs.Lists.{Rises}
use Rattle.definitions_execution.specs.RowOrder.{NotAfter}
use Rattle.definitions_execution.specs.Stored.{Stored, value_at}
use Rattle.definitions_execution.specs.Passing.{passing_composites}
use Rattle.definitions_execution.specs.Running.{delivered, opened, work}
use Rattle.definitions_execution.specs.Delivery.{Delivers}
use Rattle.definitions_execution.specs.Fits.{Fits}
use Rattle.definitions_execution.specs.Merging.{merged}

-- a plan delivers the passing composites of its tables, each once, in its order
abbrev pub PlansDeliver : Type 0
PlansDeliver = (space : Space) (stored : Stored) → Fits space stored → (plan : Plan) → IsPlan space plan
    → Delivers space stored (tables_of space plan) (order_at space (order_of space plan)) (delivered space stored plan)

abbrev pub PlansArrange : Type 0
PlansArrange = (space : Space) (stored : Stored) → Fits space stored → (plan : Plan) → IsPlan space plan
    → IsPermutation (passing_composites space stored (tables_of space plan)) (delivered space stored plan)

-- an order that satisfies the required one gives it
abbrev pub OrderedGiveRequired : Type 0
OrderedGiveRequired =
    (space : Space) (stored : Stored) → Fits space stored → (plan : Plan) → InSpace space plan
    → GivesRequired space plan
    → Rises (NotAfter (value_at stored) space.required) (delivered space stored plan)

-- the rows that are opened are the plan's work
abbrev pub OpenedIsWork : Type 0
OpenedIsWork =
    (space : Space) (stored : Stored) → Fits space stored → (plan : Plan) → IsPlan space plan
    → opened space stored plan ≡ work space stored plan

-- a merge may go along both sides once, if the inner rows are first cleaned
abbrev pub MergeGoesInStep : Type 0
MergeGoesInStep =
    (space : Space) (stored : Stored) → Fits space stored → (outer : Plan) (number : ℕ) (inner : Inner)
    → IsPlan space (Merge outer number inner)
    → merged space stored (tables_of space outer) number inner (delivered space stored outer)
    ≡ delivered space stored (Merge outer number inner)

-- a count may stop at the limit at each step
abbrev pub CountMayStop : Type 0
CountMayStop = (a b : ℕ) → saturated (saturated a + b) ≡ saturated (a + b)
