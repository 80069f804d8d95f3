-- Plans by their last steps.
use Rattle.std.specs.Prelude.{ℕ, ⊤}
use Rattle.definitions.specs.Plans.Order.{OrderNumber}
use Rattle.definitions.specs.Plans.Path.{Path, table_of}
use Rattle.definitions.specs.Plans.Plan as plan

-- a loop over a path, or a merge by a conjunct
pub data Join : Type 0 where
  Loop : (path : Path) → Join
  Merge : (number : ℕ) (inner : plan.Inner) → Join

-- an access, or a join or a sort on top of the plan of the state at a place
pub data Step : Type 0 where
  AccessOf : (path : Path) → Step
  JoinOn : (from : ℕ) (join : Join) → Step
  SortOn : (from : ℕ) (into : OrderNumber) → Step

-- a plan by its last step, and its cost
pub record Candidate : Type 0 where
  pub step : Step
  pub cost : ℕ

abbrev pub IsUnsorted : Step → Type 0
IsUnsorted (AccessOf path) = ⊤
IsUnsorted (JoinOn from join) = ⊤
IsUnsorted (SortOn from into) = ⊥

abbrev pub table_in : Join → ℕ
table_in (Loop path) = table_of path
table_in (Merge number inner) = table_of inner.path

-- a plan and a join on top of it
abbrev pub joined : plan.Plan → Join → plan.Plan
joined outer (Loop path) = plan.Loop outer path
joined outer (Merge number inner) = plan.Merge outer number inner
