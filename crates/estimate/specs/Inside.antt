-- What an estimate keeps.
use Rattle.std.specs.Prelude.{◌≡◌, ◌≤◌, length, map}
use Rattle.definitions.specs.Limits.{most_from_tables, most_conjuncts}
use Rattle.definitions.specs.Queries.Conjuncts as queries
use Rattle.definitions.specs.Estimates.PlanConjuncts.{plan_conjuncts}
use Rattle.query_tree.specs.Bound.{block_of}
use Rattle.estimate.specs.Tables.{tables_of, AreTablesOf}
use Rattle.estimate.specs.Estimated.{Estimated}
use Rattle.estimate.specs.PlanConjuncts.{condition_of_conjunct, conjunct_of}
use Rattle.estimate.specs.Sizes.{size_in, sizes_of}
use Rattle.estimate.specs.declared.estimate.Estimate.TheInside.{Inside}

abbrev pub estimated : Inside → Estimated
estimated e = record { database = e.database.now; block = e.block.now }

-- the block's tables with their sizes, and its conjuncts
pub record IsEstimate (e : Inside) : Type 0 where
  pub tables : AreTablesOf e.database.now (block_of e.block.now) (tables_of e.tables.items)
  pub count : length e.tables.items ≡ length (block_of e.block.now).tables
  pub few : length (block_of e.block.now).tables ≤ most_from_tables
  pub sizes : map size_in e.sizes.items ≡ sizes_of e.tables.items
  pub measured : length e.sizes.items ≡ length (block_of e.block.now).tables
  pub planned : map conjunct_of e.conjuncts.items ≡ plan_conjuncts e.database.now (block_of e.block.now)
  pub conditions : map condition_of_conjunct e.conjuncts.items ≡ queries.conjuncts (block_of e.block.now)
  pub counted : length e.conjuncts.items ≤ most_conjuncts
