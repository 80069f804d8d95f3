-- What each step gives, whatever list its input gives, each law proved as the contract of a function that has no code.
use Rattle.std.specs.Prelude.{ℕ, ◌+◌, ◌≡◌, List, length, sum_by, IsPermutation}
use Rattle.definitions.specs.Plans.Path.{Path, table_of}
use Rattle.definitions.specs.Plans.Plan.{Inner, Plan, Access, Loop, Merge, Sort}
use Rattle.definitions.specs.Plans.Space.{Space, order_at}
use Rattle.definitions.specs.Plans.PlanSpace.{tables_of, IsPlan}
use Rattle.definitions.specs.Plans.Cost.{saturated}
use Rattle.definitions_execution.specs.Lists.{Rises}
use Rattle.definitions_execution.specs.RowOrder.{NotAfter}
use Rattle.definitions_execution.specs.Stored.{Composite, Stored, value_at}
use Rattle.definitions_execution.specs.Passing.{passing_composites}
use Rattle.definitions_execution.specs.Running.{run, extend, delivered, work}
use Rattle.definitions_execution.specs.Fits.{Fits}
use Rattle.definitions_execution.specs.Stepping.{Gives, AreInnerRows, merged_in_step}

abbrev pub AccessGives : Type 0
AccessGives =
    (space : Space) (stored : Stored) → Fits space stored → (path : Path) → IsPlan space (Access path)
    → Gives space stored (Access path) (delivered space stored (Access path))

abbrev pub LoopGives : Type 0
LoopGives =
    (space : Space) (stored : Stored) → Fits space stored → (outer : Plan) (path : Path)
    → IsPlan space (Loop outer path)
    → (composites : List Composite) → Gives space stored outer composites
    → Gives space stored (Loop outer path)
    (extend space stored (tables_of space outer) (table_of path) (run stored path) composites)

abbrev pub MergeGives : Type 0
MergeGives =
    (space : Space) (stored : Stored) → Fits space stored → (outer : Plan) (number : ℕ) (inner : Inner)
    → IsPlan space (Merge outer number inner)
    → (composites : List Composite) (rows : List ℕ) → Gives space stored outer composites
    → AreInnerRows space stored number inner rows
    → Gives space stored (Merge outer number inner)
    (merged_in_step space stored (tables_of space outer) number (table_of inner.path) composites rows)

abbrev pub SortGives : Type 0
SortGives =
    (space : Space) (stored : Stored) → Fits space stored → (input : Plan) (order : ℕ) → IsPlan space (Sort input order)
    → (composites arranged : List Composite) → Gives space stored input composites → IsPermutation composites arranged
    → Rises (NotAfter (value_at stored) (order_at space order)) arranged
    → Gives space stored (Sort input order) arranged

-- what a plan has to deliver is an arrangement of what passes
abbrev pub ArrangedWhole : Type 0
ArrangedWhole =
    (space : Space) (stored : Stored) (plan : Plan) (composites : List Composite) → Gives space stored plan composites
    → IsPermutation (passing_composites space stored (tables_of space plan)) composites

-- a loop opens what its path opens for each composite that its outer plan gives, in whatever order they come
abbrev pub LoopWorks : Type 0
LoopWorks =
    (space : Space) (stored : Stored) (outer : Plan) (path : Path) (composites : List Composite)
    → Gives space stored outer composites
    → work space stored (Loop outer path)
    ≡ saturated (work space stored outer + sum_by (λ composite. length (run stored path composite)) composites)
