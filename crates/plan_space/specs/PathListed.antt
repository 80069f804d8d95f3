-- The paths of a table with the numbers of their orders, for every set of tables whose rows are known.
use Rattle.std.specs.Prelude.{ℕ, ◌≡◌, List, map, filter}
use Rattle.std.specs.List.{AllByRecursion}
use Rattle.definitions.specs.Table.{Database}
use Rattle.definitions.specs.Plans.TableSet.{TableSet}
use Rattle.definitions.specs.Plans.Order.{Order}
use Rattle.definitions.specs.Plans.Numbering.{number_of}
use Rattle.definitions.specs.Queries.BoundBlock.{Block}
use Rattle.definitions.specs.Estimates.Orders.{orders_of, order_of_path}
use Rattle.definitions.specs.Estimates.Paths.{paths_of}
use Rattle.definitions.specs.Estimates.Version.{Version}
use Rattle.plan_tree.specs.Plans.{path_of}
use Rattle.plan_tree.specs.Sets.{set_of}
use Rattle.access_paths.specs.Scans.{scan_cost_of}
use Rattle.access_paths.specs.Found.{FoundPath, is_open, CostsAsPath, Reads}
use Rattle.plan_space.specs.declared.path_lists.NumberedPath.{NumberedPath}

abbrev pub listed_path_of : NumberedPath → FoundPath × ℕ
listed_path_of x =
    (record { path = path_of x.path; required_outer = set_of x.required_outer; cost = scan_cost_of x.cost }, x.order)

-- with the number of its order
abbrev pub with_number : Database → Block → List Order → FoundPath → FoundPath × ℕ
with_number db block orders x = (x, number_of orders (order_of_path db block x.path))

-- those that need no more than a set of tables are its paths, each costs as its path where it is open, reads the table,
-- and has its order's number
pub record AreListed (version : Version) (db : Database) (block : Block) (table : ℕ) (xs : List (FoundPath × ℕ)) : Type
    0 where
  pub paths : (known : TableSet)
      → map (λ (x : FoundPath). x.path) (filter (is_open known) (map (λ (x : FoundPath × ℕ). x.0) xs))
      ≡ paths_of version db block known table
  pub costs : AllByRecursion (λ (x : FoundPath × ℕ). CostsAsPath db block table x.0) xs
  pub reads : AllByRecursion (λ (x : FoundPath × ℕ). Reads db block table x.0.path) xs
  pub orders : AllByRecursion (λ (x : FoundPath × ℕ). x.1
      ≡ number_of (orders_of version db block) (order_of_path db block x.0.path)) xs
