-- What holds of the spaces of blocks, each proved as the contract of a function that has no code.
use Rattle.std.specs.Prelude.{ℕ, ◌<◌, ◌≤◌, ◌≡◌, [], length, Contains, All}
use Rattle.std.specs.List.{AllByRecursion, range_with_len}
use Rattle.definitions.specs.Table.{Database}
use Rattle.definitions.specs.Plans.TableSet.{TableSet, no_tables}
use Rattle.definitions.specs.Plans.Order.{SortKey}
use Rattle.definitions.specs.Plans.Path.{Path}
use Rattle.definitions.specs.Plans.Plan.{Plan}
use Rattle.definitions.specs.Plans.Space.{Space}
use Rattle.definitions.specs.Plans.PlanSpace.{InSpace, GivesRequired}
use Rattle.definitions.specs.Plans.Cost.{limit, cost_of}
use Rattle.definitions.specs.Plans.Certificate.{Certificate}
use Rattle.definitions.specs.Plans.Exact.{IsCertified}
use Rattle.definitions.specs.Plans.Search.{IsComplete}
use Rattle.definitions.specs.Plans.Numbering.{HasNumber}
use Rattle.definitions.specs.Queries.BoundBlock.{Condition, Block, Blocks}
use Rattle.definitions.specs.Binding.Formed.{IsFormedBlock}
use Rattle.definitions.specs.Estimates.BlockTables.{rows_at}
use Rattle.definitions.specs.Estimates.Fractions.{million}
use Rattle.definitions.specs.Estimates.Selectivity.{selectivity}
use Rattle.definitions.specs.Estimates.Cardinality.{cardinality, path_rows, sort_cost}
use Rattle.definitions.specs.Estimates.Version.{Version}
use Rattle.definitions.specs.Estimates.Orders.{required_of, orders_of, order_of_path}
use Rattle.definitions.specs.Estimates.Paths.{paths_of}
use Rattle.definitions.specs.Estimates.PathCost.{path_cost}
use Rattle.definitions.specs.Estimates.BlockSpace.{space_of}

-- ---- completeness

-- a block has a table, and the columns by which its rows are asked to go are of its tables
pub record HasPlans (block : Block) : Type 0 where
  pub some : 0 < length block.tables
  pub required : All (λ (key : SortKey). key.column.table < length block.tables) (required_of block)

-- in each version the space of such a block is complete: what the theory of plans says of complete spaces holds of it
abbrev pub SpaceIsComplete : Type 0
SpaceIsComplete =
    (version : Version) (db : Database) (block : Block) → HasPlans block → IsComplete (space_of version db block)

-- and each well-formed block is one, whatever the blocks around it
abbrev pub FormedBlocksHavePlans : Type 0
FormedBlocksHavePlans = (db : Database) (blocks around : Blocks) (n : ℕ) (block : Block)
    → IsFormedBlock db blocks around n block → HasPlans block

-- a path's order has a number, which stands for that order
abbrev pub PathOrderIsNumbered : Type 0
PathOrderIsNumbered =
    (version : Version) (db : Database) (block : Block) (tables : TableSet) (table : ℕ) (path : Path)
    → table < length block.tables
    → Contains (paths_of version db block tables table) path
    → HasNumber (orders_of version db block) (order_of_path db block path) ((space_of version db block).path_order path)

-- ---- bounds of the estimates

-- a share is at most the whole; a scan hands on no more rows than its table has; and no estimate passes the limit
abbrev pub EstimatesStayBelow : Type 0
EstimatesStayBelow = (db : Database) (block : Block) → ((c : Condition) → selectivity db block c ≤ million)
    × ((tables : TableSet) → cardinality db block tables ≤ limit)
    × ((tables : TableSet) → sort_cost db block tables ≤ limit)
    × ((tables : TableSet) (path : Path) → path_cost db block tables path ≤ limit)
    × ((tables : TableSet) (table : ℕ) → path_rows db block tables table ≤ rows_at db block table)

-- ---- certificates

-- a certificate that lists no state
abbrev pub bare : ℕ → Certificate
bare target = record { target = target; states = [] }

-- no access costs less
abbrev pub NoAccessBelow : Space → ℕ → Type 0
NoAccessBelow space cost =
    AllByRecursion (λ table. AllByRecursion (λ (path : Path). cost ≤ space.path_cost no_tables path)
    (space.paths no_tables table))
    (range_with_len 0 space.table_count)

-- where no access costs less than a plan does, its cost alone certifies it
abbrev pub TargetSuffices : Type 0
TargetSuffices =
    (space : Space) (plan : Plan) (target : ℕ) → target ≤ limit → InSpace space plan → GivesRequired space plan
    → cost_of space plan ≡ target → NoAccessBelow space target → IsCertified space plan (bare target)
