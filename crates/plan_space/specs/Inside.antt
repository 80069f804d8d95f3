-- What a space keeps.
use Rattle.std.specs.Prelude.{◌≡◌, ◌<◌, ◌≤◌, length}
use Rattle.definitions.specs.Limits.{most_from_tables}
use Rattle.query_tree.specs.Bound.{block_of}
use Rattle.plan_tree.specs.Versions.{version_of}
use Rattle.plan_space.specs.PathLists as block_paths
use Rattle.plan_space.specs.MergeLists as block_merges
use Rattle.interesting_orders.specs.Uses as order_uses
use Rattle.plan_space.specs.Planned.{Planned, space_in}
use Rattle.definitions.specs.Plans.Search.{IsComplete}
use Rattle.plan_space.specs.declared.space.Space.TheInside.{Inside}

abbrev pub planned : Inside → Planned
planned s = record { version = version_of s.version; database = s.estimate.database; block = s.estimate.block }

-- all that is made is of its block
pub record IsPlanSpace (s : Inside) : Type 0 where
  pub complete : IsComplete (space_in (planned s))
  pub count : (space_in (planned s)).table_count ≡ length (block_of s.estimate.block).tables
  pub few : (space_in (planned s)).table_count ≤ most_from_tables
  pub orders : s.orders ≡ (space_in (planned s)).orders
  pub some : 0 < length s.orders
  pub paths : block_paths.AreBlockPaths (version_of s.version) s.estimate.database (block_of s.estimate.block) s.paths
  pub paths_count : block_paths.tables_in s.paths ≡ (space_in (planned s)).table_count
  pub merges : block_merges.AreBlockMerges (space_in (planned s)) s.merges
  pub merges_count : block_merges.tables_in s.merges ≡ (space_in (planned s)).table_count
  pub uses : order_uses.AreUses (space_in (planned s)) s.uses
