-- Worked examples: an index on two columns, read forward and backward, and one block in two versions of the space.
use Rattle.std.specs.Prelude.{ℕ, ◌≡◌, true, false, List, [], ◌∷◌, Some, None, codes}
use Rattle.definitions.specs.Table.{Database}
use Rattle.definitions.specs.Statement.{GreaterThan}
use Rattle.definitions.specs.Plans.Path.{SegmentScan, IndexScan}
use Rattle.definitions.specs.Plans.Plan.{Plan, Sort}
use Rattle.definitions.specs.Plans.Cost.{cost_of}
use Rattle.definitions.specs.Plans.Certificate.{Certificate}
use Rattle.definitions.specs.Plans.Checking.{Accesses, Refused, IsVerdict}
use Rattle.definitions.specs.Queries.BoundBlock as bound
use Rattle.definitions.specs.Queries.BoundBlock.{Condition, Block}
use Rattle.definitions.specs.Estimates.Version.{One, Two}
use Rattle.definitions.specs.Estimates.Paths.{paths_of}
use Rattle.definitions.specs.Estimates.BlockSpace.{space_of}
use Rattle.definitions.specs.Plans.Exact.{IsCertified}
use Rattle.definitions.specs.Examples.Estimates.Setups as s
use Rattle.definitions.specs.Examples.Estimates.Setups.{state, certificate_of, path_costs, scan_of, match_of}
use Rattle.definitions.specs.Examples.Estimates.Paths.{a, b, a_is_seven, IsTarget}

-- ---- T (A, B, C) of 1000 rows on 50 pages, an index on (A, B) of so many keys on 5 pages

abbrev pub indexed_by_two : ℕ → Database
indexed_by_two keys =
    s.table_with (codes "T") (codes "A" ∷ codes "B" ∷ codes "C" ∷
    []) 1000 50 (s.index_with false (0 ∷ 1 ∷ []) keys 5 None ∷ []) ∷ []

abbrev pub by_two : Database
by_two = indexed_by_two 500

-- SELECT C FROM T WHERE ..
abbrev pub select_c : List Condition → Block
select_c conditions = s.select_from (s.item (codes "C") (s.col 0 2) ∷ []) (0 ∷ []) (Some (s.all_hold conditions)) []

abbrev pub b_is_three : Condition
b_is_three = s.equals b (s.whole 3 1)

-- A = 7 AND B = 3 match it together, forward or backward: one key of 500; the first version doesn't know such an index
abbrev pub both_equal : Block
both_equal = select_c (a_is_seven ∷ b_is_three ∷ [])

abbrev pub TwoColumnsMatch : Type 0
TwoColumnsMatch = (paths_of Two by_two both_equal 0 0
    ≡ SegmentScan 0 ∷ IndexScan 0 0 false ∷ match_of (0 ∷ []) false ∷ match_of (0 ∷ 1 ∷ []) false
    ∷ IndexScan 0 0 true ∷ match_of (0 ∷ []) true ∷ match_of (0 ∷ 1 ∷ []) true ∷ [])
    × (path_costs Two by_two both_equal 0 0 ≡ 510 ∷ 560 ∷ 70 ∷ 20 ∷ 560 ∷ 70 ∷ 20 ∷ [])
    × (paths_of One by_two both_equal 0 0 ≡ SegmentScan 0 ∷ [])

-- B = 3 alone matches nothing, as A comes first
abbrev pub SecondNeedsFirst : Type 0
SecondNeedsFirst =
    paths_of Two by_two (select_c (b_is_three ∷ [])) 0 0 ≡ SegmentScan 0 ∷ IndexScan 0 0 false ∷ IndexScan 0 0 true ∷ []

-- and with A > 7 before it neither: all but the last are by `=`
abbrev pub a_above_seven : Condition
a_above_seven = bound.Compare GreaterThan a (s.whole 7 1)

abbrev pub RangeEndsMatch : Type 0
RangeEndsMatch = paths_of Two by_two (select_c (a_above_seven ∷ b_is_three ∷ [])) 0 0
    ≡ SegmentScan 0 ∷ IndexScan 0 0 false ∷ match_of (0 ∷ []) false ∷ IndexScan 0 0 true ∷ match_of (0 ∷ []) true ∷ []

-- what is matched by both columns is one of the keys, however few they are: of 2 keys half of the 55 pages, and not a
-- hundredth
abbrev pub KeysDecideShare : Type 0
KeysDecideShare = path_costs Two (indexed_by_two 2) both_equal 0 0 ≡ 510 ∷ 560 ∷ 70 ∷ 290 ∷ 560 ∷ 70 ∷ 290 ∷ []

-- both by `=`, forward or backward, are least
abbrev pub TargetsOfTwoColumns : Type 0
TargetsOfTwoColumns =
    IsTarget Two by_two both_equal (match_of (0 ∷ 1 ∷ []) false) 20
    × IsTarget Two by_two both_equal (match_of (0 ∷ 1 ∷ []) true) 20

-- ---- SELECT A, B FROM T WHERE A = 7 ORDER BY A DESC, B DESC

abbrev pub descending : Block
descending =
    s.select_from (s.item (codes "A") a ∷ s.item (codes "B") b ∷ []) (0 ∷ []) (Some a_is_seven)
    (record { item = 0; descending = true } ∷ record { item = 1; descending = true } ∷ [])

-- the match read backward gives the order, at 160
abbrev pub BackwardGivesDescending : Type 0
BackwardGivesDescending = IsTarget Two by_two descending (match_of (0 ∷ []) true) 160

-- the first version doesn't know the index: a scan and a sort are least there, at 720. In the second the same text is
-- refused, as the match costs less than the state that it reaches is said to
abbrev pub sorted_scan : Plan
sorted_scan = Sort (scan_of 0) 1

abbrev pub sorted_certificate : Certificate
sorted_certificate = certificate_of 720 (state 1 0 600 ∷ [])

abbrev pub FirstVersionSorts : Type 0
FirstVersionSorts = (cost_of (space_of One by_two descending) (scan_of 0) ≡ 600)
    × IsCertified (space_of One by_two descending) sorted_scan sorted_certificate
    × IsVerdict (space_of Two by_two descending) sorted_certificate sorted_scan (Refused Accesses 1 1)
