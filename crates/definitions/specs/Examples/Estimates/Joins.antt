-- Worked examples: joins of two tables, their statistics, costs and certificates.
use Rattle.std.specs.Prelude.{ℕ, ◌≡◌, true, false, [], ◌∷◌, Some, None, map, codes}
use Rattle.definitions.specs.Table.{Database}
use Rattle.definitions.specs.Plans.Order.{ascending}
use Rattle.definitions.specs.Plans.Path.{SegmentScan, IndexScan, MatchingScan}
use Rattle.definitions.specs.Plans.Plan.{Plan, Loop, Merge, Sort}
use Rattle.definitions.specs.Plans.Space.{Space}
use Rattle.definitions.specs.Plans.Cost.{cost_of}
use Rattle.definitions.specs.Plans.Certificate.{Certificate}
use Rattle.definitions.specs.Plans.Validity.{IsValid}
use Rattle.definitions.specs.Plans.Checking.{Accesses, Sorts, Refused, IsVerdict}
use Rattle.definitions.specs.Queries.BoundBlock.{Condition, Block}
use Rattle.definitions.specs.Estimates.Cardinality.{cardinality, path_rows, pages, sort_cost}
use Rattle.definitions.specs.Estimates.Version.{Version, One}
use Rattle.definitions.specs.Estimates.Orders.{orders_of}
use Rattle.definitions.specs.Estimates.Paths.{paths_of}
use Rattle.definitions.specs.Estimates.BlockSpace.{space_of}
use Rattle.definitions.specs.Plans.Exact.{IsCertified}
use Rattle.definitions.specs.Examples.Estimates.Setups as s
use Rattle.definitions.specs.Examples.Estimates.Setups.{two_tables, state, certificate_of, scan_of, path_costs}

-- ---- T1 (X, P) of 100 rows on 10 pages, T2 (Y, Q) of 1000 rows on 100 pages, no index: SELECT P, Q FROM T1, T2 WHERE
-- X = Y

abbrev pub unindexed : Database
unindexed = two_tables []

abbrev pub x_is_y : Condition
x_is_y = s.equals (s.col 0 0) (s.col 1 0)

abbrev pub join : Block
join =
    s.select_from (s.item (codes "P") (s.col 0 1) ∷ s.item (codes "Q") (s.col 1 1) ∷ []) (0 ∷ 1 ∷ []) (Some x_is_y) []

-- X = Y is true of a tenth of the pairs; a scan of T2 for a known row of T1 hands on 100 rows; sorts fill 1, 4 and 79
-- pages
abbrev pub JoinEstimates : Type 0
JoinEstimates =
    (map (cardinality unindexed join) (0 ∷ 1 ∷ 2 ∷ 3 ∷ []) ≡ 1 ∷ 100 ∷ 1000 ∷ 10000 ∷ [])
    × (path_rows unindexed join 1 1 ≡ 100)
    × (map (pages unindexed join) (1 ∷ 2 ∷ 3 ∷ []) ≡ 1 ∷ 4 ∷ 79 ∷ [])
    × (map (sort_cost unindexed join) (1 ∷ 2 ∷ 3 ∷ []) ≡ 120 ∷ 1080 ∷ 11580 ∷ [])

-- with P = 1, true of a tenth of T1, each conjunct is applied once: 10 rows of T1, and 1000 of both; a scan of T2 for a
-- known row of T1 still hands on 100 rows, as P = 1 says nothing of T2, and one of T1 for a known row of T2 hands on 1
abbrev pub join_with_one : Block
join_with_one = record join { condition = Some (s.all_hold (x_is_y ∷ s.equals (s.col 0 1) (s.whole 1 1) ∷ [])) }

abbrev pub AppliedOnce : Type 0
AppliedOnce =
    (map (cardinality unindexed join_with_one) (1 ∷ 2 ∷ 3 ∷ []) ≡ 10 ∷ 1000 ∷ 1000 ∷ [])
    × (path_rows unindexed join_with_one 1 1 ≡ 100)
    × (path_rows unindexed join_with_one 2 0 ≡ 1)

-- a table, sorted by an order, merged by conjunct 0 with the other, sorted
abbrev pub sorted_and_merged : ℕ → ℕ → ℕ → Plan
sorted_and_merged table order other =
    Merge (Sort (scan_of table) order) 0 (record { path = SegmentScan other; sorted = true })

-- the two loops, and the two merges
abbrev pub join_space : Space
join_space = space_of One unindexed join

abbrev pub JoinCosts : Type 0
JoinCosts =
    (cost_of join_space (Loop (scan_of 0) (SegmentScan 1)) ≡ 110200)
    × (cost_of join_space (Loop (scan_of 1) (SegmentScan 0)) ≡ 112000)
    × (cost_of join_space (sorted_and_merged 0 1 1) ≡ 13400) × (cost_of join_space (sorted_and_merged 1 2 0) ≡ 13400)

-- each merge is least, with the same certificate
abbrev pub join_certificate : Certificate
join_certificate = certificate_of 13400 (state 1 0 200 ∷ state 1 1 320 ∷ state 2 0 2000 ∷ state 2 2 3080 ∷ [])

abbrev pub JoinIsCertified : Type 0
JoinIsCertified =
    (version : Version) → IsCertified (space_of version unindexed join) (sorted_and_merged 0 1 1) join_certificate
    × IsCertified (space_of version unindexed join) (sorted_and_merged 1 2 0) join_certificate

-- ---- the same with an order: SELECT Y, P FROM T1, T2 WHERE X = Y ORDER BY Y

abbrev pub by_y : Block
by_y =
    s.select_from (s.item (codes "Y") (s.col 1 0) ∷ s.item (codes "P") (s.col 0 1) ∷ []) (0 ∷ 1 ∷ []) (Some x_is_y)
    (record { item = 0; descending = false } ∷ [])

-- what is asked for comes first: the orders by number
abbrev pub JoinOrders : Type 0
JoinOrders = (orders_of One unindexed join ≡ [] ∷ ascending (s.column_at 0 0) ∷ ascending (s.column_at 1 0) ∷ [])
    × (orders_of One unindexed by_y ≡ [] ∷ ascending (s.column_at 1 0) ∷ ascending (s.column_at 0 0) ∷ [])
    × (map (cost_of (space_of One unindexed by_y)) (sorted_and_merged 0 2 1 ∷ sorted_and_merged 1 1 0 ∷
    Sort (scan_of 0) 2 ∷ Sort (scan_of 1) 1 ∷ [])
    ≡ 13400 ∷ 13400 ∷ 320 ∷ 3080 ∷ [])

-- rows by X are by Y, too, once both tables are there
abbrev pub ordered_certificate : Certificate
ordered_certificate = certificate_of 13400 (state 1 0 200 ∷ state 1 2 320 ∷ state 2 0 2000 ∷ state 2 1 3080 ∷ [])

abbrev pub OrderedIsCertified : Type 0
OrderedIsCertified =
    (version : Version) → IsCertified (space_of version unindexed by_y) (sorted_and_merged 0 2 1) ordered_certificate
    × IsCertified (space_of version unindexed by_y) (sorted_and_merged 1 1 0) ordered_certificate

-- ---- the first join with a unique index on Y of 1000 keys on 10 pages: each row of T1 meets one of T2, at 21

abbrev pub key_indexed : Database
key_indexed = two_tables (s.index_with true (0 ∷ []) 1000 10 None ∷ [])

abbrev pub key_join : Plan
key_join = Loop (scan_of 0) (MatchingScan 1 0 (0 ∷ []) false)

abbrev pub KeyJoinCosts : Type 0
KeyJoinCosts =
    (paths_of One key_indexed join 1 1 ≡ SegmentScan 1 ∷ IndexScan 1 0 false ∷ MatchingScan 1 0 (0 ∷ []) false ∷ [])
    × (path_costs One key_indexed join 1 1 ≡ 1001 ∷ 10101 ∷ 21 ∷ [])
    × (cost_of (space_of One key_indexed join) key_join ≡ 2300)
    × (cost_of (space_of One key_indexed join) (Sort (scan_of 0) 1) ≡ 320)

-- the certificate with bounds for T1 by X and for T2; weaker ones, as 319 and 1220, are valid as well
abbrev pub key_certificate : ℕ → ℕ → Certificate
key_certificate sorted other = certificate_of 2300 (state 1 0 200 ∷ state 1 1 sorted ∷ state 2 0 other ∷ [])

abbrev pub KeyJoinIsCertified : Type 0
KeyJoinIsCertified =
    (version : Version) → IsCertified (space_of version key_indexed join) key_join (key_certificate 320 2000)
    × IsValid (space_of version key_indexed join) key_join (key_certificate 319 2000)
    × IsValid (space_of version key_indexed join) key_join (key_certificate 320 1220)

abbrev pub unsorted_certificate : Certificate
unsorted_certificate = certificate_of 2300 (state 1 0 200 ∷ state 2 0 2000 ∷ [])

-- bounds that are too high are refused: 1219 for T2 by its sort, 2001 by its scan; and so is a certificate that leaves
-- out T1 by X
abbrev pub HigherBoundsAreRefused : Type 0
HigherBoundsAreRefused =
    (version : Version) → IsVerdict (space_of version key_indexed join) (key_certificate 320 1219) key_join
    (Refused Sorts 2 0)
    × IsVerdict (space_of version key_indexed join) (key_certificate 320 2001) key_join (Refused Accesses 2 0)
    × IsVerdict (space_of version key_indexed join) unsorted_certificate key_join (Refused Sorts 1 0)
