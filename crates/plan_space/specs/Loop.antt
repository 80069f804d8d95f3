-- The loops that bring a table on top of plans on a set of tables, with what they add to the plans' costs.
use Rattle.std.specs.Prelude.{ℕ, ◌*◌, ◌≡◌, ◌≢◌, List, AllPairs, Contains}
use Rattle.std.specs.List.{AllByRecursion}
use Rattle.definitions.specs.Plans.TableSet.{TableSet}
use Rattle.definitions.specs.Plans.Path.{Path, table_of}
use Rattle.definitions.specs.Plans.Space.{Space}
use Rattle.definitions.specs.Plans.PlanSpace.{IsPath}
use Rattle.definitions.specs.Plans.Cost.{saturated, loop_cost}
use Rattle.plan_space.specs.Item.{Item}

-- a path and what the loop over it adds to the cost of the outer plan
pub record LoopItem : Type 0 where
  pub path : Path
  pub cost : ℕ

-- one scan for each of so many rows
abbrev pub with_scans : ℕ → Item → LoopItem
with_scans rows item = record { path = item.path; cost = saturated (rows * item.cost) }

module _ (space : Space) where
  -- what stands beside a path is what the loop over it costs
  pub record IsLoopItem (tables : TableSet) (table : ℕ) (item : LoopItem) : Type 0 where
    pub reads : table_of item.path ≡ table
    pub is_path : IsPath space tables item.path
    pub cost : item.cost ≡ loop_cost space tables item.path

  -- all loops over a table, each once and with its cost
  pub record AreLoops (tables : TableSet) (table : ℕ) (items : List LoopItem) : Type 0 where
    pub each : AllByRecursion (IsLoopItem tables table) items
    pub all : (path : Path) → table_of path ≡ table → IsPath space tables path
        → Contains items (record { path = path; cost = loop_cost space tables path })
    -- no two are over one path
    pub distinct : AllPairs (λ (a b : LoopItem). a.path ≢ b.path) items
