-- The plans of the worked example are of its block's space.
use Rattle.std.proofs.Common.{sym, subst, ◌≡◌, ℕ, ◌<◌, ◌⊎◌, inl, inr, [], lit≤, lit<, arith, refl}
use Rattle.std.specs.Prelude.{slice_index_or, Contains}
use Prim.Native.Nat.{zero}
use Rattle.std.proofs.Common.{suc}
use Rattle.std.proofs.lemmas.Nat.Bits.{bit_at_above}
use Rattle.definitions.specs.Plans.TableSet.{Has}
use Rattle.definitions.specs.Plans.Order.{BlockColumn, SortKey, ascending}
use Rattle.definitions.specs.Plans.Conjunct.{Conjunct}
use Rattle.definitions.specs.Plans.Path.{SegmentScan}
use Rattle.definitions.specs.Plans.Plan.{Sort}
use Rattle.definitions.specs.Plans.ColumnClass.{itself}
use Rattle.definitions.specs.Plans.PlanSpace.{MayFollow, IsMergeConjunct, CanSort, IsPlan, access, loop, merge, sort, InSpace}
use Rattle.definitions.specs.Queries.Conjuncts.{condition_tables}
use Rattle.definitions.specs.Estimates.PlanConjuncts.{plan_conjunct}
use Rattle.definitions.specs.Estimates.Version.{One}
use Rattle.definitions.specs.Examples.Estimates.Setups.{column_at, col, equals, scan_of}
use Rattle.definitions_execution.specs.OfBlock.{NamesOwnTables}
use Rattle.definitions_execution.specs.Examples.TwoTables.{two, joined, joined_space, alone_in, sorted_scan, loop_from_second, merge_from_first, PlansAreInSpace, LawsSpeakOfThem}
use Rattle.definitions.proofs.PlanTheory.Elements.{first_or_rest, not_in_empty}
use Rattle.definitions_execution.proofs.WholeBlock.{gives_passing}

abbrev x : BlockColumn
x = column_at 0 0

abbrev y : BlockColumn
y = column_at 1 0

abbrev x_is_y : Conjunct
x_is_y = plan_conjunct two joined (equals (col 0 0) (col 1 0))

first : IsPlan joined_space (scan_of 0)
first = access (SegmentScan 0) (lit≤ tt) (0, lit≤ tt, refl)

second : IsPlan joined_space (scan_of 1)
second = access (SegmentScan 1) (lit≤ tt) (0, lit≤ tt, refl)

over : (s table : ℕ) → Has s table → (k : ℕ) (d : SortKey) → k < 1 → Has s (slice_index_or (ascending (record { table = table; number = 0 })) k d).column.table
over s table has k d lt = let e : k ≡ 0 = omega arith in rw e has

sort_first : CanSort joined_space 1 1
sort_first = (λ e. absurd (omega (arith, e)), (lit≤ tt, over 1 0 refl))

sort_second : CanSort joined_space 2 2
sort_second = (λ e. absurd (omega (arith, e)), (lit≤ tt, over 2 1 refl))

sort_both : CanSort joined_space 3 1
sort_both = (λ e. absurd (omega (arith, e)), (lit≤ tt, over 3 0 refl))

second_follows : MayFollow joined_space 1 1
second_follows = (lit≤ tt, refl, inr (inl (0, x_is_y, refl, refl, refl, (0, refl, refl), λ u h. h)))

first_follows : MayFollow joined_space 2 0
first_follows = (lit≤ tt, refl, inr (inl (0, x_is_y, refl, refl, refl, (1, refl, refl), λ u h. h)))

merges : IsMergeConjunct joined_space 0 x y
merges = ((x_is_y, refl, refl, inl refl), λ e. absurd (omega (arith, e)))

merges_back : IsMergeConjunct joined_space 0 y x
merges_back = ((x_is_y, refl, refl, inr refl), λ e. absurd (omega (arith, e)))

from_second : InSpace joined_space loop_from_second
from_second = (loop (scan_of 1) (SegmentScan 0) second (first_follows, (0, lit≤ tt, refl)), refl)

merged : InSpace joined_space merge_from_first
merged = (
  merge (Sort (scan_of 0) 1) 0 (sorted_scan 1) (sort (scan_of 0) 1 first sort_first)
      (second_follows, (x, y, merges, refl, refl, (refl, itself x, tt), ((0, lit≤ tt, refl), inl refl))),
  refl,
)

pub in_space : PlansAreInSpace
in_space = (
  (loop (scan_of 0) (SegmentScan 1) first (second_follows, (0, lit≤ tt, refl)), refl),
  from_second,
  merged,
  (
    merge (Sort (scan_of 1) 2) 0 (sorted_scan 0) (sort (scan_of 1) 2 second sort_second)
        (first_follows, (y, x, merges_back, refl, refl, (refl, itself y, tt), ((0, lit≤ tt, refl), inl refl))),
    refl,
  ),
  (sort loop_from_second 1 from_second.0 sort_both, refl),
)

own_tables : NamesOwnTables joined
own_tables condition there table has = of_place (first_or_rest (equals (col 0 0) (col 1 0)) [] condition there)
  where
    small : (u : ℕ) → Has 3 u → u < 2
    small zero h = lit≤ tt
    small (suc zero) h = lit≤ tt
    small (suc (suc u)) h = let z = bit_at_above 3 2 (suc (suc u)) (lit< tt) (omega arith) in absurd (omega (arith, z, h))

    of_place : (equals (col 0 0) (col 1 0) ≡ condition) ⊎ Contains [] condition → table < 2
    of_place (inl e) = small table (subst (λ c. Has (condition_tables c) table) (sym e) has)
    of_place (inr r) = absurd (not_in_empty condition r)

pub laws_speak : LawsSpeakOfThem
laws_speak = (own_tables, gives_passing One (alone_in two) joined own_tables merge_from_first merged)
