-- Worked examples: the shares of conditions.
use Rattle.std.specs.Prelude.{ℕ, pos, neg_ℤ, ◌≡◌, true, false, List, [], ◌∷◌, Option, Some, None, map, codes, replicate}
use Rattle.definitions.specs.Value.{Numeric, Char}
use Rattle.definitions.specs.Statement.{LessThan, GreaterThan, LessOrEquals, Nullable}
use Rattle.definitions.specs.Table.{Database}
use Rattle.definitions.specs.Queries.BoundBlock as bound
use Rattle.definitions.specs.Queries.BoundBlock.{ValueExpr, Condition, Block}
use Rattle.definitions.specs.Estimates.Selectivity.{selectivity}
use Rattle.definitions.specs.Examples.Estimates.Setups as s
use Rattle.definitions.specs.Examples.Estimates.Setups.{one_index, select_b}
use Rattle.definitions.specs.Examples.Estimates.Paths.{a, b, a_is_seven, ranged_share, above_75, a_or_b}

-- ---- the shares line by line: T1 (A, B) with an index on A of 100 keys from 0 to 100, T2 (C, D, E CHAR(8)) with one
-- on C of 1000 keys

abbrev pub two_indexed : Database
two_indexed =
    s.indexed_table false (s.from_to 0 100)
    ∷ record (s.table_with (codes "T2") [] 1000 100 (s.index_with true (0 ∷ []) 1000 10 None ∷ [])) {
      columns =
          s.integer (codes "C") ∷ s.integer (codes "D") ∷ record {
            name = codes "E";
            type = Char 8;
            constraint = Nullable;
          } ∷ [];
    }
    ∷ []

abbrev pub both_tables : Condition → Block
both_tables condition = s.select_from (s.item (codes "B") b ∷ []) (0 ∷ 1 ∷ []) (Some condition) []

abbrev pub shares_of : List Condition → List ℕ
shares_of = map (λ condition. selectivity two_indexed (both_tables condition) condition)

abbrev pub c : ValueExpr
c = s.col 1 0

abbrev pub d : ValueExpr
d = s.col 1 1

abbrev pub e : ValueExpr
e = bound.Column (s.column_at 1 2) (Char 8)

abbrev pub one : ValueExpr
one = s.whole 1 1

-- A + 1
abbrev pub a_and_one : ValueExpr
a_and_one = s.plus a one

-- (1, NULL, 1)
abbrev pub three_members : List (Option ValueExpr)
three_members = Some one ∷ None ∷ Some one ∷ []

abbrev pub above : ValueExpr → ValueExpr → Condition
above = bound.Compare GreaterThan

-- A = C, A = D, B = D; A = 1, 1 = B, A = A + 1
abbrev pub EqualShares : Type 0
EqualShares = (shares_of (s.equals a c ∷ s.equals a d ∷ s.equals b d ∷ []) ≡ 1000 ∷ 10000 ∷ 100000 ∷ [])
    × (shares_of (s.equals a one ∷ s.equals one b ∷ s.equals a a_and_one ∷ []) ≡ 10000 ∷ 100000 ∷ 10000 ∷ [])

-- A > 90, B > 90, A > C, A > A + 1; A BETWEEN 20 AND 10, A BETWEEN 10 AND B, A + 1 BETWEEN 10 AND 20
abbrev pub RangeShares : Type 0
RangeShares =
    (shares_of (above a (s.whole 90 2) ∷ above b (s.whole 90 2) ∷ above a c ∷ above a a_and_one ∷ []) ≡ 100000 ∷
    333334 ∷ 333334 ∷ 333334 ∷ [])
    × (shares_of (bound.Between false a (s.whole 20 2) (s.whole 10 2) ∷ bound.Between false a (s.whole 10 2) b
    ∷ bound.Between false a_and_one (s.whole 10 2) (s.whole 20 2) ∷ []) ≡ 1 ∷ 250000 ∷ 333334 ∷ [])

-- A IN (1, NULL, 1), B IN, B NOT IN, A + 1 IN the same; B IN six members, which stops at a half
abbrev pub ListShares : Type 0
ListShares =
    shares_of (bound.InList false a three_members ∷ bound.InList false b three_members ∷
    bound.InList true b three_members
    ∷ bound.InList false a_and_one three_members ∷ bound.InList false b (replicate 6 (Some one)) ∷ [])
    ≡ 30000 ∷ 300000 ∷ 700000 ∷ 333334 ∷ 500000 ∷ []

-- B IS NULL, B IS NOT NULL, A + 1 IS NULL; E LIKE, E NOT LIKE
abbrev pub NullAndPatternShares : Type 0
NullAndPatternShares =
    (shares_of (bound.IsNull false b ∷ bound.IsNull true b ∷ bound.IsNull false a_and_one ∷ []) ≡ 100000 ∷ 900000 ∷
    333334 ∷ [])
    × (shares_of (bound.Like false e [] ∷ bound.Like true e [] ∷ []) ≡ 100000 ∷ 900000 ∷ [])

-- A = 7 AND B = 1, A = 7 OR B = 1, NOT of it; of three parts, from the left: B > 1 AND B > 1 AND B > 1, A = 7 OR B = 1
-- OR B = 1
abbrev pub ConnectedShares : Type 0
ConnectedShares =
    (shares_of (s.all_hold (a_is_seven ∷ s.equals b one ∷ []) ∷ a_or_b ∷ bound.Not a_or_b ∷ []) ≡ 1000 ∷ 109000 ∷
    891000 ∷ [])
    × (shares_of (s.all_hold (replicate 3 (above b one)) ∷
    s.some_holds (a_is_seven ∷ s.equals b one ∷ s.equals b one ∷ []) ∷ [])
    ≡ 37038 ∷ 198100 ∷ [])

-- a number is drawn into the range: A > 500 and A < -3.5 are one millionth, A < 500 is all, and of A BETWEEN 50 AND 500
-- and of A BETWEEN -50 AND 50 the half that lies within
abbrev pub negative : ValueExpr → ValueExpr
negative = bound.Signed true

abbrev pub DrawnIntoRange : Type 0
DrawnIntoRange =
    (ranged_share (above a (s.whole 500 3)) ≡ 1)
    × (ranged_share (bound.Compare LessThan a (negative (bound.Numeral 35 2 1))) ≡ 1)
    × (ranged_share (bound.Compare LessThan a (s.whole 500 3)) ≡ 1000000)
    × (ranged_share (bound.Between false a (s.whole 50 2) (s.whole 500 3)) ≡ 500000)
    × (ranged_share (bound.Between false a (negative (s.whole 50 2)) (s.whole 50 2)) ≡ 500000)

-- and cut towards zero to the column's scale: A > 75.9 is as A > 75; with keys from -10 to 10, A < -3.5 is as A < -3,
-- which leaves 7 of 20; of N NUMERIC(5,2) with keys from 0.00 to 100.00, N > 75.999 is as N > 75.99, which leaves 24.01
-- of 100
abbrev pub n : ValueExpr
n = bound.Column (s.column_at 0 0) (Numeric 5 2)

abbrev pub numeric_table : Database
numeric_table =
    record (s.table_with (codes "T") [] 1000 50 (s.index_with false (0 ∷ []) 100 5 (s.from_to 0 10000) ∷ [])) {
      columns = record { name = codes "N"; type = Numeric 5 2; constraint = Nullable } ∷ [];
    }
    ∷ []

abbrev pub below_minus_three : Condition
below_minus_three = bound.Compare LessThan a (negative (bound.Numeral 35 2 1))

abbrev pub CutToScale : Type 0
CutToScale = (ranged_share (above a (bound.Numeral 759 3 1)) ≡ 250000)
    × (selectivity (one_index (Some (record {
      low = neg_ℤ (pos 10);
      high = pos 10;
    }))) (select_b below_minus_three) below_minus_three ≡ 350000)
    × (selectivity numeric_table (select_b (above n (bound.Numeral 75999 5 3))) (above n (bound.Numeral 75999 5 3))
    ≡ 240100)

-- ---- what would be wrong

-- where all keys are one, LOW = HIGH, the range has no extent: a third, not all and not nothing
abbrev pub OneKeyIsNoRange : Type 0
OneKeyIsNoRange = selectivity (one_index (s.from_to 75 75)) (select_b above_75) above_75 ≡ 333334

-- NOT leaves the rest, and of a condition that is always true still one millionth; it is not taken into AND and OR
abbrev pub NotLeavesTheRest : Type 0
NotLeavesTheRest = (ranged_share (bound.Not a_or_b) ≡ 891000)
    × (ranged_share (bound.Not (bound.Compare LessOrEquals a (s.whole 100 3))) ≡ 1)
    × (ranged_share (bound.Between true a (s.whole 10 2) (s.whole 20 2)) ≡ 900000)
