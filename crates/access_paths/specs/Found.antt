-- The paths of a table, whichever tables' rows are known.
use Rattle.std.specs.Prelude.{ℕ, ◌≡◌, Some, Bool, true, false, if◌then◌else◌, List, [], ◌∷◌, map, filter}
use Rattle.definitions.specs.Table.{Index, Database}
use Rattle.definitions.specs.Plans.TableSet.{TableSet}
use Rattle.definitions.specs.Plans.Path as p
use Rattle.definitions.specs.Queries.BoundBlock.{Block}
use Rattle.definitions.specs.Estimates.BlockTables.{is_within, index_at}
use Rattle.definitions.specs.Estimates.Cardinality.{path_rows}
use Rattle.definitions.specs.Estimates.PathCost.{path_cost}
use Rattle.plan_tree.specs.Plans.{path_of}
use Rattle.plan_tree.specs.Sets.{set_of}
use Rattle.access_paths.specs.Scans.{ScanCost, scan_cost_of, cost_with}
use Rattle.access_paths.specs.declared.paths.TablePath.{TablePath}

-- a path, the tables whose rows have to be known for it, and what a scan costs but for the rows that it hands on
pub record FoundPath : Type 0 where
  pub path : p.Path
  pub required_outer : TableSet
  pub cost : ScanCost

abbrev pub found_path_of : TablePath → FoundPath
found_path_of x = record { path = path_of x.path; required_outer = set_of x.required_outer; cost = scan_cost_of x.cost }

-- the directions of indexes: forward, and backward, too
abbrev pub directions_with : Bool → List Bool
directions_with backward = if backward then false ∷ true ∷ [] else false ∷ []

-- those for which no more has to be known
abbrev pub is_open : TableSet → FoundPath → Bool
is_open known x = is_within x.required_outer known

abbrev pub open_paths : TableSet → List TablePath → List p.Path
open_paths known paths = map (λ (x : FoundPath). x.path) (filter (is_open known) (map found_path_of paths))

-- it reads the table, as a whole or by one of its indexes
abbrev pub HasIndex : Database → Block → ℕ → ℕ → Type 0
HasIndex db block table number = (i : Index) × (index_at db block table number ≡ Some i)

abbrev pub Reads : Database → Block → ℕ → p.Path → Type 0
Reads db block table (p.SegmentScan read) = read ≡ table
Reads db block table (p.IndexScan read number backward) = (read ≡ table) × HasIndex db block table number
Reads db block table (p.MatchingScan read number conjuncts backward) = (read ≡ table) × HasIndex db block table number

-- where it is open, a scan costs what its path costs
abbrev pub CostsAsPath : Database → Block → ℕ → FoundPath → Type 0
CostsAsPath db block table x =
    (known : TableSet) → is_open known x ≡ true
    → cost_with x.cost (path_rows db block known table) ≡ path_cost db block known x.path
