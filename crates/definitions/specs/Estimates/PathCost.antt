-- What one scan of a path costs (Selinger et al. 1979, table 2; the numbers are own): 10 for each page that is fetched,
-- and 1 for each row that is handed on (RSICARD). The pages:
--   unique index, all its columns matched by `=`   one of the index, one of the table: 21 with its row
--   clustered index, matched by conjuncts          F * (NINDX + TCARD)
--   one that isn't clustered, matched              F * (NINDX + NCARD), or F * (NINDX + TCARD) if that fits the buffer
--   clustered index, all of it                     NINDX + TCARD
--   one that isn't clustered, all of it            NINDX + NCARD, or NINDX + TCARD if that fits the buffer
--   segment scan                                   TCARD
use Rattle.std.specs.Prelude.{ℕ, ◌+◌, ◌*◌, max, nat_le, Bool, true, false, ◌&&◌, ◌||◌, if◌then◌else◌, List, [], ◌∷◌}
use Rattle.std.specs.Prelude.{Option, Some, None, length, fold, map, slice_get}
use Rattle.definitions.specs.Table.{Index, Database}
use Rattle.definitions.specs.Plans.TableSet.{TableSet}
use Rattle.definitions.specs.Plans.Path.{Path, SegmentScan, IndexScan, MatchingScan}
use Rattle.definitions.specs.Plans.Cost.{saturated, share, selectivity_of}
use Rattle.definitions.specs.Queries.BoundBlock.{Block}
use Rattle.definitions.specs.Estimates.BlockTables.{rows_at, pages_at, index_at}
use Rattle.definitions.specs.Estimates.Fractions.{fraction}
use Rattle.definitions.specs.Estimates.PlanConjuncts.{plan_conjuncts}
use Rattle.definitions.specs.Estimates.Cardinality.{path_rows}
use Rattle.definitions.specs.Estimates.Paths.{equals_at}

-- pages that the buffer holds, so that none is fetched twice
abbrev pub buffer_pages : ℕ
buffer_pages = 64

-- a page counts 10, and a row that is handed on 1
abbrev pub weighted : ℕ → ℕ → ℕ
weighted pages rows = saturated (10 * pages + rows)

-- a unique index, all its columns equal to a value: two pages and one row
abbrev pub one_row : ℕ
one_row = 21

-- the conjuncts of a match equal all columns of an index, one each
abbrev pub equals_each : Block → TableSet → ℕ → List ℕ → List ℕ → Bool
equals_each block tables table [] [] = true
equals_each block tables table (number ∷ numbers) (conjunct ∷ conjuncts) =
    equals_at block tables (record { table = table; number = number }) conjunct
    && equals_each block tables table numbers conjuncts
equals_each block tables table _ _ = false

module _ (db : Database) (block : Block) where
  -- NINDX + TCARD: the index, and each page of the table once
  abbrev pub pages_once : Index → ℕ → ℕ
  pages_once i table = saturated (i.statistics.pages + pages_at db block table)

  -- NINDX + NCARD: the index, and a page of the table for each row
  abbrev pub pages_by_row : Index → ℕ → ℕ
  pages_by_row i table = saturated (i.statistics.pages + rows_at db block table)

  -- what is fetched of them where a share of the index is read
  abbrev pub pages_fetched : Index → ℕ → (ℕ → ℕ) → ℕ
  pages_fetched i table share_of =
      if i.statistics.clustered || nat_le (share_of (pages_once i table)) buffer_pages
      then share_of (pages_once i table)
      else share_of (pages_by_row i table)

  -- the share of pages that conjuncts leave, each its own of what those before it left
  abbrev pub shares : List ℕ → ℕ → ℕ
  shares conjuncts pages =
      fold share pages (map (λ number. selectivity_of (slice_get (plan_conjuncts db block) number)) conjuncts)

  -- the share of a matching scan: one key where two columns or more are all equal to a value, else what its conjuncts
  -- leave
  abbrev pub matched : Index → Bool → List ℕ → ℕ → ℕ
  matched i all_equal conjuncts pages =
      if nat_le 2 (length i.columns) && all_equal then share pages (fraction 1 (max 1 i.statistics.keys))
      else shares conjuncts pages

  -- all of an index
  abbrev pub whole_index_cost : TableSet → ℕ → Option Index → ℕ
  whole_index_cost tables table None = 0
  whole_index_cost tables table (Some i) =
      weighted (pages_fetched i table (λ pages. pages)) (path_rows db block tables table)

  -- what conjuncts match of it
  abbrev pub match_cost : TableSet → ℕ → List ℕ → Option Index → ℕ
  match_cost tables table conjuncts None = 0
  match_cost tables table conjuncts (Some i) =
      let all_equal : Bool = equals_each block tables table i.columns conjuncts in
      if i.unique && all_equal then one_row
      else weighted (pages_fetched i table (matched i all_equal conjuncts)) (path_rows db block tables table)

  -- one scan of a path where the rows of a set of tables are known; backward it costs as much as forward
  abbrev pub path_cost : TableSet → Path → ℕ
  path_cost tables (SegmentScan table) = weighted (pages_at db block table) (path_rows db block tables table)
  path_cost tables (IndexScan table number backward) = whole_index_cost tables table (index_at db block table number)
  path_cost tables (MatchingScan table number conjuncts backward) =
      match_cost tables table conjuncts (index_at db block table number)
