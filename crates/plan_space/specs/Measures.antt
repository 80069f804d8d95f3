-- What plans come to: their tables, the order of their rows, and what they cost.
use Rattle.std.specs.Prelude.{ℕ, ◌≡◌, ◌<◌, ◌^◌, Option, Some, None}
use Rattle.definitions.specs.Plans.TableSet.{TableSet}
use Rattle.definitions.specs.Plans.Path.{Path, table_of}
use Rattle.definitions.specs.Plans.Plan.{Plan, Inner}
use Rattle.definitions.specs.Plans.Space.{Space}
use Rattle.definitions.specs.Plans.PlanSpace.{IsPath, IsPlan, tables_of, order_of}
use Rattle.definitions.specs.Plans.Cost.{cost_of}
use Rattle.plan_tree.specs.Sets.{set_of}
use Rattle.plan_space.specs.Item.{Item, IsItem}
use Rattle.plan_space.specs.Loop.{LoopItem, IsLoopItem}
use Rattle.plan_space.specs.Merge.{Merge, IsMerge, IsMergeItem}
use Rattle.plan_space.specs.declared.plan_summary.PlanSummary.{PlanSummary}

module _ (space : Space) where
  -- a plan of the block, with all that is said of it
  pub record IsMeasured (plan : Plan) (m : PlanSummary) : Type 0 where
    pub is_plan : IsPlan space plan
    pub tables : tables_of space plan ≡ set_of m.tables
    pub order : order_of space plan ≡ m.order
    pub cost : cost_of space plan ≡ m.cost.number
    pub inside : set_of m.tables < 2 ^ space.table_count

  -- or no plan of the block
  abbrev pub Measures : Plan → Option PlanSummary → Type 0
  Measures plan None = IsPlan space plan → ⊥
  Measures plan (Some m) = IsMeasured plan m

  -- a path where the rows of some tables are known, or none
  abbrev pub IsPathFound : TableSet → Path → Option Item → Type 0
  IsPathFound known path None = table_of path < space.table_count → IsPath space known path → ⊥
  IsPathFound known path (Some item) = (item.path ≡ path) × IsPath space known path
      × IsItem space known (table_of path) item

  -- a loop on top of plans on some tables, or none
  abbrev pub IsLoopFound : TableSet → Path → Option LoopItem → Type 0
  IsLoopFound tables path None = IsPath space tables path → ⊥
  IsLoopFound tables path (Some item) = (item.path ≡ path) × IsLoopItem space tables (table_of path) item

  -- a merge on top of plans on some tables, or none
  abbrev pub IsMergeFound : TableSet → ℕ → Inner → Option Merge → Type 0
  IsMergeFound tables number inner None = IsMerge space tables (table_of inner.path) number inner → ⊥
  IsMergeFound tables number inner (Some item) = (item.conjunct ≡ number) × (item.inner ≡ inner)
      × IsMergeItem space tables (table_of inner.path) item
