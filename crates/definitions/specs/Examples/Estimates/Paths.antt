-- Worked examples: the paths of one table, and what they cost.
use Rattle.std.specs.Prelude.{ℕ, pos, ◌≡◌, true, false, List, [], ◌∷◌, Some, None, map, codes}
use Rattle.definitions.specs.Value.{Integer, Number}
use Rattle.definitions.specs.Statement.{NotEquals, LessThan, GreaterThan, Unique}
use Rattle.definitions.specs.Table.{Database}
use Rattle.definitions.specs.Change.{new_table, with_rows}
use Rattle.definitions.specs.Plans.Path.{Path, SegmentScan, IndexScan}
use Rattle.definitions.specs.Plans.Plan.{Access}
use Rattle.definitions.specs.Plans.Checking.{Accesses, Target, Refused, IsVerdict}
use Rattle.definitions.specs.Queries.BoundBlock as bound
use Rattle.definitions.specs.Queries.BoundBlock.{ValueExpr, Condition, Block}
use Rattle.definitions.specs.Queries.Conjuncts.{is_late}
use Rattle.definitions.specs.Estimates.Selectivity.{selectivity}
use Rattle.definitions.specs.Estimates.Cardinality.{path_rows}
use Rattle.definitions.specs.Estimates.Version.{Version, One}
use Rattle.definitions.specs.Estimates.Paths.{paths_of}
use Rattle.definitions.specs.Estimates.BlockSpace.{space_of}
use Rattle.definitions.specs.Plans.Exact.{IsCertified}
use Rattle.definitions.specs.Estimates.Laws.{bare}
use Rattle.definitions.specs.Examples.Estimates.Setups as s
use Rattle.definitions.specs.Examples.Estimates.Setups.{one_index, select_b, path_costs, match_of}

-- ---- one table: T (A, B) of 1000 rows on 50 pages, an index on A of 100 keys on 5 pages, not clustered

abbrev pub a : ValueExpr
a = s.col 0 0

abbrev pub b : ValueExpr
b = s.col 0 1

-- A = 7 is true of one row in a hundred: 50 pages and 10 rows cost 510 by a scan of the table, 55 pages 560 by one of
-- the index, and of these a hundredth, one page, costs 20
abbrev pub a_is_seven : Condition
a_is_seven = s.equals a (s.whole 7 1)

abbrev pub MatchIsCheapest : Type 0
MatchIsCheapest = (selectivity (one_index None) (select_b a_is_seven) a_is_seven ≡ 10000)
    × (paths_of One (one_index None) (select_b a_is_seven) 0 0 ≡ SegmentScan 0 ∷ IndexScan 0 0 false ∷
    match_of (0 ∷ []) false ∷ [])
    × (path_costs One (one_index None) (select_b a_is_seven) 0 0 ≡ 510 ∷ 560 ∷ 20 ∷ [])

-- a match by `=` in a unique index costs 21, whatever its statistics
abbrev pub unique_index : Database
unique_index = s.indexed_table true None ∷ []

abbrev pub UniqueMatchCosts : Type 0
UniqueMatchCosts = path_costs One unique_index (select_b a_is_seven) 0 0 ≡ 510 ∷ 560 ∷ 21 ∷ []

-- and so it is no better than a scan of T (A INTEGER NOT NULL UNIQUE) once the rows 1, 2, 3 are loaded: they have a
-- page, and A = 2 is taken to leave 2 of them
abbrev pub loaded : Database
loaded =
    with_rows (new_table (codes "T") (record { name = codes "A"; type = Integer; constraint = Unique } ∷ []))
    (map (λ n. Number (pos n) 0 ∷ []) (1 ∷ 2 ∷ 3 ∷ [])) ∷ []

abbrev pub a_is_two : Condition
a_is_two = s.equals a (s.whole 2 1)

abbrev pub select_a : Condition → Block
select_a condition = s.select_from (s.item (codes "A") a ∷ []) (0 ∷ []) (Some condition) []

abbrev pub UniqueMatchLoses : Type 0
UniqueMatchLoses =
    (selectivity loaded (select_a a_is_two) a_is_two ≡ 333334) × (path_rows loaded (select_a a_is_two) 0 0 ≡ 2)
    × (path_costs One loaded (select_a a_is_two) 0 0 ≡ 12 ∷ 22 ∷ 21 ∷ [])

-- A <> 7 is true of all but one row in a hundred, and matches no index
abbrev pub a_is_not_seven : Condition
a_is_not_seven = bound.Compare NotEquals a (s.whole 7 1)

abbrev pub AllButOneKey : Type 0
AllButOneKey = (selectivity (one_index None) (select_b a_is_not_seven) a_is_not_seven ≡ 990000)
    × (path_rows (one_index None) (select_b a_is_not_seven) 0 0 ≡ 990)
    × (path_costs One (one_index None) (select_b a_is_not_seven) 0 0 ≡ 1490 ∷ 1540 ∷ [])

-- ---- the same, with keys from 0 to 100

abbrev pub ranged : Database
ranged = one_index (s.from_to 0 100)

abbrev pub ranged_share : Condition → ℕ
ranged_share condition = selectivity ranged (select_b condition) condition

abbrev pub ranged_costs : Condition → List ℕ
ranged_costs condition = path_costs One ranged (select_b condition) 0 0

-- A > 75 is a quarter of the range, and so is 75 < A
abbrev pub above_75 : Condition
above_75 = bound.Compare GreaterThan a (s.whole 75 2)

abbrev pub RangeIsAPart : Type 0
RangeIsAPart = (ranged_share above_75 ≡ 250000) × (ranged_share (bound.Compare LessThan (s.whole 75 2) a) ≡ 250000)
    × (ranged_costs above_75 ≡ 750 ∷ 800 ∷ 390 ∷ [])

-- A BETWEEN 10 AND 20 is a tenth of it
abbrev pub between_10_and_20 : Condition
between_10_and_20 = bound.Between false a (s.whole 10 2) (s.whole 20 2)

abbrev pub BetweenIsAPart : Type 0
BetweenIsAPart = (ranged_share between_10_and_20 ≡ 100000) × (ranged_costs between_10_and_20 ≡ 600 ∷ 650 ∷ 160 ∷ [])

-- A = 7 OR B = 1: a hundredth and a tenth, less their product
abbrev pub a_or_b : Condition
a_or_b = s.some_holds (a_is_seven ∷ s.equals b (s.whole 1 1) ∷ [])

abbrev pub EitherIsLessThanBoth : Type 0
EitherIsLessThanBoth = (ranged_share a_or_b ≡ 109000) × (ranged_costs a_or_b ≡ 609 ∷ 659 ∷ [])

-- A / B > 2 may divide by zero, so it is late and leaves out no row
abbrev pub quotient : Condition
quotient = bound.Compare GreaterThan (s.divided_by a b) (s.whole 2 1)

abbrev pub LateLeavesAll : Type 0
LateLeavesAll = (is_late quotient ≡ true) × (ranged_costs quotient ≡ 1500 ∷ 1550 ∷ [])

-- ---- what would be wrong

-- whether the pages fit into the buffer is judged of those that are fetched: a match of a hundredth of 1005 pages
-- fetches 11, and so does not take a page for each row, though 1005 pages are more than the buffer holds
abbrev pub many_pages : Database
many_pages =
    s.table_with (codes "T") (codes "A" ∷ codes "B" ∷ []) 100000 1000 (s.index_with false (0 ∷ []) 100 5 None ∷ []) ∷ []

abbrev pub BufferHoldsTheShare : Type 0
BufferHoldsTheShare = path_costs One many_pages (select_b a_is_seven) 0 0 ≡ 11000 ∷ 1001050 ∷ 1110 ∷ []

-- ---- targets: of these blocks no access costs less than the path named, so that its target alone shows that it is
-- least

abbrev pub IsTarget : Version → Database → Block → Path → ℕ → Type 0
IsTarget version db block path target = IsCertified (space_of version db block) (Access path) (bare target)

abbrev pub scan : Path
scan = SegmentScan 0

abbrev pub match_of_a : Path
match_of_a = match_of (0 ∷ []) false

-- the index on A, in each version
abbrev pub TargetsOfOneIndex : Type 0
TargetsOfOneIndex = (version : Version)
    → IsTarget version (one_index None) (select_b a_is_seven) match_of_a 20
    × IsTarget version unique_index (select_b a_is_seven) match_of_a 21
    × IsTarget version loaded (select_a a_is_two) scan 12
    × IsTarget version (one_index None) (select_b a_is_not_seven) scan 1490
    × IsTarget version ranged (select_b above_75) match_of_a 390
    × IsTarget version ranged (select_b between_10_and_20) match_of_a 160
    × IsTarget version ranged (select_b a_or_b) scan 609 × IsTarget version ranged (select_b quotient) scan 1500

-- another plan's cost as the target is refused, and so is a target that the plan doesn't cost
abbrev pub OtherTargetsAreRefused : Type 0
OtherTargetsAreRefused = (version : Version)
    → IsVerdict (space_of version (one_index None) (select_b a_is_seven)) (bare 510) (Access scan)
    (Refused Accesses 1 0)
    × IsVerdict (space_of version (one_index None) (select_b a_is_seven)) (bare 19) (Access match_of_a)
    (Refused Target 1 0)
