-- Worked examples: products of tables, where they pay, and when columns are of one class.
use Rattle.std.specs.Prelude.{ℕ, ◌<◌, ◌≡◌, true, false, List, [], ◌∷◌, Some, None, map, codes, replicate}
use Rattle.std.specs.List.{range_with_len}
use Rattle.definitions.specs.ValueType.{NumberType}
use Rattle.definitions.specs.Table.{Database}
use Rattle.definitions.specs.Plans.Path.{SegmentScan, MatchingScan}
use Rattle.definitions.specs.Plans.Plan.{Plan, Loop, Merge, Sort}
use Rattle.definitions.specs.Plans.Space.{Space}
use Rattle.definitions.specs.Plans.PlanSpace.{InSpace}
use Rattle.definitions.specs.Plans.Cost.{limit, cost_of}
use Rattle.definitions.specs.Plans.Certificate.{Certificate}
use Rattle.definitions.specs.Queries.BoundBlock as bound
use Rattle.definitions.specs.Queries.BoundBlock.{Block}
use Rattle.definitions.specs.Estimates.Version.{One, Two, Three}
use Rattle.definitions.specs.Estimates.BlockSpace.{space_of}
use Rattle.definitions.specs.Plans.Exact.{IsCertified}
use Rattle.definitions.specs.Estimates.Laws.{bare}
use Rattle.definitions.specs.Examples.Estimates.Setups as s
use Rattle.definitions.specs.Examples.Estimates.Setups.{state, certificate_of, scan_of}

-- ---- SELECT COUNT(*) over twelve or fourteen times a table that cannot have more rows: every statistic stops at 10^18

abbrev pub full : Database
full = s.table_with (codes "T") (codes "A" ∷ []) limit 1 [] ∷ []

abbrev pub count_over : ℕ → Block
count_over copies =
    record (s.select_from (s.item (codes "COL1") (bound.AggregateValue 0 (NumberType 0)) ∷
    []) (replicate copies 0) None []) {
      functions = bound.CountRows ∷ [];
    }

abbrev pub loops_over : Plan → List ℕ → Plan
loops_over plan [] = plan
loops_over plan (table ∷ tables) = loops_over (Loop plan (SegmentScan table)) tables

abbrev pub TargetsOfProducts : Type 0
TargetsOfProducts =
    IsCertified (space_of One full (count_over 12)) (loops_over (scan_of 0) (range_with_len 1 11)) (bare limit)
    × IsCertified (space_of Three full (count_over 14)) (loops_over (scan_of 0) (range_with_len 1 13)) (bare limit)

-- ---- a product that pays: A (X) and C (Z) of 10 rows on a page, B (P, Q) of 100000 rows on 1000 pages, a unique index
-- on (P, Q) of 100000 keys on 300 pages. SELECT X FROM A, C, B WHERE X = P AND Z = Q

abbrev pub small_and_great : Database
small_and_great =
    s.table_with (codes "A") (codes "X" ∷ []) 10 1 []
    ∷ s.table_with (codes "C") (codes "Z" ∷ []) 10 1 []
    ∷ s.table_with (codes "B") (codes "P" ∷ codes "Q" ∷
    []) 100000 1000 (s.index_with true (0 ∷ 1 ∷ []) 100000 300 None ∷ [])
    ∷ []

abbrev pub product_pays : Block
product_pays =
    s.select_from (s.item (codes "X") (s.col 0 0) ∷ []) (0 ∷ 1 ∷ 2 ∷ [])
    (Some (s.all_hold (s.equals (s.col 0 0) (s.col 2 0) ∷ s.equals (s.col 1 0) (s.col 2 1) ∷ []))) []

abbrev pub paying_space : Space
paying_space = space_of Three small_and_great product_pays

-- A, then C, then B by both columns at 21
abbrev pub product_first : Plan
product_first = Loop (Loop (scan_of 0) (SegmentScan 1)) (MatchingScan 2 0 (0 ∷ 1 ∷ []) false)

abbrev pub ProductPays : Type 0
ProductPays = (cost_of paying_space product_first ≡ 2320)
    × (map (cost_of paying_space) (scan_of 0 ∷ Sort (scan_of 0) 1 ∷ scan_of 1 ∷ Sort (scan_of 1) 3 ∷
    Loop (scan_of 0) (SegmentScan 1)
    ∷ Loop (Sort (scan_of 0) 1) (SegmentScan 1) ∷ Loop (Sort (scan_of 1) 3) (SegmentScan 0) ∷ []) ≡ 20 ∷ 50 ∷ 20 ∷ 50 ∷
    220 ∷ 250 ∷ 250 ∷ [])

-- it is least in the third version
abbrev pub product_certificate : Certificate
product_certificate =
    certificate_of 2320 (state 1 0 20 ∷ state 1 1 50 ∷ state 2 0 20 ∷ state 2 3 50 ∷ state 3 0 220 ∷ state 3 1 250 ∷
    state 3 3 250 ∷ [])

abbrev pub ProductIsCertified : Type 0
ProductIsCertified = IsCertified paying_space product_first product_certificate

-- in the second, where products come last, every plan costs more than 100000
abbrev pub late_space : Space
late_space = space_of Two small_and_great product_pays

abbrev pub LateProductsCostMore : Type 0
LateProductsCostMore = (plan : Plan) → InSpace late_space plan → 100000 < cost_of late_space plan

-- ---- when columns are of one class: A (X), B (Y), C (Z). SELECT X FROM A, B, C WHERE X = Y AND Y = Z

abbrev pub three_small : Database
three_small =
    s.table_with (codes "A") (codes "X" ∷ []) 100 10 [] ∷ s.table_with (codes "B") (codes "Y" ∷ []) 100 10 []
    ∷ s.table_with (codes "C") (codes "Z" ∷ []) 100 10 [] ∷ []

abbrev pub chain_of_three : Block
chain_of_three =
    s.select_from (s.item (codes "X") (s.col 0 0) ∷ []) (0 ∷ 1 ∷ 2 ∷ [])
    (Some (s.all_hold (s.equals (s.col 0 0) (s.col 1 0) ∷ s.equals (s.col 1 0) (s.col 2 0) ∷ []))) []

-- A by X and C, a product, merged with B by a conjunct
abbrev pub product_merged_by : ℕ → Plan
product_merged_by number =
    Merge (Loop (Sort (scan_of 0) 1) (SegmentScan 2)) number (record { path = SegmentScan 1; sorted = true })

-- by X = Y it is a plan of the third version; by Y = Z it isn't, as X and Z are no class before B is there; of the
-- second neither is
abbrev pub ClassesNeedTheirTables : Type 0
ClassesNeedTheirTables = InSpace (space_of Three three_small chain_of_three) (product_merged_by 0)
    × (InSpace (space_of Three three_small chain_of_three) (product_merged_by 1) → ⊥)
    × (InSpace (space_of Two three_small chain_of_three) (product_merged_by 0) → ⊥)
    × (InSpace (space_of Two three_small chain_of_three) (product_merged_by 1) → ⊥)
