-- The paths of a table where the rows of a set of tables are known, with their orders and costs.
use Rattle.std.specs.Prelude.{ℕ, ◌<◌, ◌≡◌, ◌≢◌, if◌then◌else◌, List, [], ◌∷◌, AllPairs, length, map}
use Rattle.std.specs.List.{AllByRecursion}
use Rattle.definitions.specs.Plans.TableSet.{TableSet}
use Rattle.definitions.specs.Plans.Path.{Path, table_of}
use Rattle.definitions.specs.Plans.Space.{Space}
use Rattle.access_paths.specs.Found.{FoundPath, is_open}
use Rattle.access_paths.specs.Scans.{cost_with}

-- a path, the number of its order and what one scan costs
pub record Item : Type 0 where
  pub path : Path
  pub order : ℕ
  pub cost : ℕ

abbrev pub with_rows : ℕ → FoundPath × ℕ → Item
with_rows rows x = record { path = x.0.path; order = x.1; cost = cost_with x.0.cost rows }

-- of listed paths those that need no more than a set of tables, each scan handing on so many rows
abbrev pub open_items : TableSet → ℕ → List (FoundPath × ℕ) → List Item
open_items known rows [] = []
open_items known rows (x ∷ xs) = if is_open known x.0 then with_rows rows x
    ∷ open_items known rows xs else open_items known rows xs

module _ (space : Space) (known : TableSet) (table : ℕ) where
  -- it reads the table, and what stands beside it is its order and its cost
  pub record IsItem (item : Item) : Type 0 where
    pub reads : table_of item.path ≡ table
    pub order : item.order ≡ space.path_order item.path
    pub numbered : item.order < length space.orders
    pub cost : item.cost ≡ space.path_cost known item.path

  -- the paths of the table, in order
  pub record AreItems (items : List Item) : Type 0 where
    pub paths : map (λ (item : Item). item.path) items ≡ space.paths known table
    pub each : AllByRecursion IsItem items
    -- no two are of one path
    pub distinct : AllPairs (λ (a b : Item). a.path ≢ b.path) items
