-- The cheapest of the paths of a table.
use Rattle.std.specs.Prelude.{ℕ, ◌≤◌, ◌≡◌, Option, Some, None, nat_lt, if◌then◌else◌}
use Rattle.definitions.specs.Plans.TableSet.{TableSet}
use Rattle.definitions.specs.Plans.Path.{Path, table_of}
use Rattle.definitions.specs.Plans.Space.{Space}
use Rattle.definitions.specs.Plans.PlanSpace.{IsPath}
use Rattle.plan_space.specs.Item.{Item, IsItem}

-- the one that costs less, the first where both cost the same
abbrev pub cheaper_item : Option Item → Item → Item
cheaper_item None item = item
cheaper_item (Some known) item = if nat_lt item.cost known.cost then item else known

-- none of the table's paths costs less, or it has none
module _ (space : Space) (known : TableSet) (table : ℕ) where
  abbrev pub IsCheapestPath : Option Item → Type 0
  IsCheapestPath None = (path : Path) → table_of path ≡ table → IsPath space known path → ⊥
  IsCheapestPath (Some item) = IsItem space known table item × IsPath space known item.path
      × ((path : Path) → table_of path ≡ table → IsPath space known path → item.cost ≤ space.path_cost known path)
