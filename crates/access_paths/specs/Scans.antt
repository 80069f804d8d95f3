-- What scans cost, but for the rows that they hand on (Selinger et al. 1979, table 2).
use Rattle.std.specs.Prelude.{ℕ, ◌≡◌, ◌+◌, Bool, ◌&&◌, nat_eq, if◌then◌else◌, length}
use Rattle.definitions.specs.Table.{Index, Database}
use Rattle.definitions.specs.Plans.Cost.{saturated}
use Rattle.definitions.specs.Queries.BoundBlock.{Block}
use Rattle.definitions.specs.Estimates.BlockTables.{rows_at, pages_at}
use Rattle.definitions.specs.Estimates.PathCost.{one_row, weighted, pages_fetched, matched}
use Rattle.access_paths.specs.Matches.{IndexMatch}
use Rattle.access_paths.specs.declared.scans.ScanCost.{ScanCost as Code}
use Rattle.access_paths.specs.declared.scans.ScanCost.TheVariants as c
use Rattle.access_paths.specs.declared.scans.IndexSize.{IndexSize}

-- one row by a unique index, or so many pages
pub data ScanCost : Type 0 where
  OneRow : ScanCost
  Pages : (pages : ℕ) → ScanCost

abbrev pub scan_cost_of : Code → ScanCost
scan_cost_of c.OneRow = OneRow
scan_cost_of (c.Pages pages) = Pages pages

-- with the rows that are handed on
abbrev pub cost_with : ScanCost → ℕ → ℕ
cost_with OneRow rows = one_row
cost_with (Pages pages) rows = weighted pages rows

module _ (db : Database) (block : Block) (table : ℕ) (i : Index) where
  abbrev pub whole_scan : ScanCost
  whole_scan = Pages (pages_fetched db block i table (λ pages. pages))

  abbrev pub is_all_equal : IndexMatch → Bool
  is_all_equal c = c.equal && nat_eq (length c.conjuncts) (length i.columns)

  abbrev pub matching_scan : IndexMatch → ScanCost
  matching_scan c =
      if i.unique && is_all_equal c then OneRow
      else Pages (pages_fetched db block i table (matched db block i (is_all_equal c) c.conjuncts))

  -- what the costs of an index depend on
  pub record IsSizeOf (size : IndexSize) : Type 0 where
    pub columns : size.columns ≡ length i.columns
    pub unique : size.unique ≡ i.unique
    pub clustered : size.clustered ≡ i.statistics.clustered
    pub keys : size.keys ≡ i.statistics.keys
    pub once : size.pages_once ≡ saturated (i.statistics.pages + pages_at db block table)
    pub by_row : size.pages_by_row ≡ saturated (i.statistics.pages + rows_at db block table)
