-- How many rows a set of tables is taken to give, and what it costs to sort them (own, after Selinger et al. 1979,
-- sections 4 and 5: QCARD and RSICARD are the cardinalities times the selectivities of the boolean factors).
use Rattle.std.specs.Prelude.{ℕ, ◌+◌, ◌*◌, Bool, not, ◌&&◌, List, [], ◌∷◌, filter, fold, sum_by}
use Rattle.std.specs.Int.{div_ceil}
use Rattle.definitions.specs.Table.{Table, Database}
use Rattle.definitions.specs.Statistics.{row_width}
use Rattle.definitions.specs.Plans.TableSet.{TableSet, no_tables, with_table}
use Rattle.definitions.specs.Plans.Conjunct.{Conjunct}
use Rattle.definitions.specs.Plans.Cost.{saturated, share}
use Rattle.definitions.specs.Queries.BoundBlock.{Block}
use Rattle.definitions.specs.Estimates.BlockTables.{has, is_within, statistic_at, rows_at, members}
use Rattle.definitions.specs.Estimates.PlanConjuncts.{plan_conjuncts}

-- what the early conjuncts of some kind leave of some rows: in the order of the text, each its share
abbrev pub left_by : (Conjunct → Bool) → List Conjunct → ℕ → ℕ
left_by kind conjuncts rows =
    fold (λ left (c : Conjunct). share left c.selectivity) rows (filter (λ (c : Conjunct). c.early && kind c) conjuncts)

-- its tables are all there once one more is taken, and were not before
abbrev pub is_completed : TableSet → ℕ → Conjunct → Bool
is_completed taken table c = is_within c.tables (with_table taken table) && not (is_within c.tables taken)

module _ (db : Database) (block : Block) where
  -- of the product of some rows with those of one more table, what the conjuncts leave that it completes
  abbrev pub joined_with : TableSet → ℕ → ℕ → ℕ
  joined_with taken rows table =
      left_by (is_completed taken table) (plan_conjuncts db block) (saturated (rows * rows_at db block table))

  -- from the rows of the tables taken to those of the further ones, too
  abbrev pub taking : TableSet → ℕ → List ℕ → ℕ
  taking taken rows [] = rows
  taking taken rows (table ∷ others) = taking (with_table taken table) (joined_with taken rows table) others

  -- the rows of a set of tables, taken in the order of FROM (QCARD)
  abbrev pub cardinality : TableSet → ℕ
  cardinality tables = taking no_tables 1 (members block tables)

  -- the rows that a scan of a table hands on where the rows of a set of tables are known (RSICARD)
  abbrev pub path_rows : TableSet → ℕ → ℕ
  path_rows tables table =
      left_by (λ c. has c.tables table
      && is_within c.tables (with_table tables table)) (plan_conjuncts db block) (rows_at db block table)

  -- the bytes of a row of a set of tables, and the pages that its rows fill
  abbrev pub width : TableSet → ℕ
  width tables = sum_by (statistic_at db block (λ (t : Table). row_width t.columns)) (members block tables)

  abbrev pub pages : TableSet → ℕ
  pages tables = saturated (div_ceil (cardinality tables * width tables) 4096)

  -- a sort writes and reads each page, and handles each row
  abbrev pub sort_cost : TableSet → ℕ
  sort_cost tables = saturated (20 * pages tables + cardinality tables)
