-- Least costs that a target alone shows, of blocks over one table.
use Prim.Native.Nat.{zero}
use Rattle.std.proofs.Common.{suc, ℕ, Option, Some, ◌≡◌, inl, inr, arith, slice_get, refl, [], ◌∷◌, None, lit≤, false, true}
use Rattle.definitions.specs.Plans.Comparisons.{AccessStep, by_access}
use Rattle.definitions.specs.Plans.Plan.{Access}
use Rattle.definitions.specs.Plans.ColumnClass.{Equates, itself}
use Rattle.definitions.specs.Plans.TableSet.{TableSet}
use Rattle.definitions.specs.Plans.Order.{BlockColumn, Order, OrderNumber}
use Rattle.definitions.specs.Plans.Conjunct.{Conjunct}
use Rattle.definitions.specs.Plans.Folding.{OpensMerge, IsUseful}
use Rattle.definitions.specs.Plans.PlanSpace.{access}
use Rattle.definitions.specs.Estimates.Version.{Version, One, Two, Three}
use Rattle.definitions.specs.Estimates.BlockSpace.{space_of}
use Rattle.definitions.specs.Estimates.PlanConjuncts.{plan_conjuncts}
use Rattle.definitions.specs.Examples.Estimates.Setups.{one_index, select_b, match_of}
use Rattle.definitions.specs.Examples.Estimates.Paths.{a_is_seven, unique_index, loaded, select_a, a_is_two, a_is_not_seven, ranged, above_75, between_10_and_20, a_or_b, quotient, match_of_a, scan, TargetsOfOneIndex, OtherTargetsAreRefused}
use Rattle.definitions.specs.Examples.Estimates.TwoColumns.{by_two, both_equal, descending, TargetsOfTwoColumns, BackwardGivesDescending}
use Rattle.definitions.proofs.EstimateTheory.Targets.{by_target, not_met}

pub one_index_targets : TargetsOfOneIndex
one_index_targets One = (
  by_target (space_of One (one_index None) (select_b a_is_seven)) (Access match_of_a) 20 (lit≤ tt) (access match_of_a (lit≤ tt) (2, lit≤ tt, refl), refl) tt refl ((lit≤ tt, (lit≤ tt, (lit≤ tt, tt))), tt),
  by_target (space_of One unique_index (select_b a_is_seven)) (Access match_of_a) 21 (lit≤ tt) (access match_of_a (lit≤ tt) (2, lit≤ tt, refl), refl) tt refl ((lit≤ tt, (lit≤ tt, (lit≤ tt, tt))), tt),
  by_target (space_of One loaded (select_a a_is_two)) (Access scan) 12 (lit≤ tt) (access scan (lit≤ tt) (0, lit≤ tt, refl), refl) tt refl ((lit≤ tt, (lit≤ tt, (lit≤ tt, tt))), tt),
  by_target (space_of One (one_index None) (select_b a_is_not_seven)) (Access scan) 1490 (lit≤ tt) (access scan (lit≤ tt) (0, lit≤ tt, refl), refl) tt refl ((lit≤ tt, (lit≤ tt, tt)), tt),
  by_target (space_of One ranged (select_b above_75)) (Access match_of_a) 390 (lit≤ tt) (access match_of_a (lit≤ tt) (2, lit≤ tt, refl), refl) tt refl ((lit≤ tt, (lit≤ tt, (lit≤ tt, tt))), tt),
  by_target (space_of One ranged (select_b between_10_and_20)) (Access match_of_a) 160 (lit≤ tt) (access match_of_a (lit≤ tt) (2, lit≤ tt, refl), refl) tt refl ((lit≤ tt, (lit≤ tt, (lit≤ tt, tt))), tt),
  by_target (space_of One ranged (select_b a_or_b)) (Access scan) 609 (lit≤ tt) (access scan (lit≤ tt) (0, lit≤ tt, refl), refl) tt refl ((lit≤ tt, (lit≤ tt, tt)), tt),
  by_target (space_of One ranged (select_b quotient)) (Access scan) 1500 (lit≤ tt) (access scan (lit≤ tt) (0, lit≤ tt, refl), refl) tt refl ((lit≤ tt, (lit≤ tt, tt)), tt),
)
one_index_targets Two = (
  by_target (space_of Two (one_index None) (select_b a_is_seven)) (Access match_of_a) 20 (lit≤ tt) (access match_of_a (lit≤ tt) (2, lit≤ tt, refl), refl) tt refl ((lit≤ tt, (lit≤ tt, (lit≤ tt, (lit≤ tt, (lit≤ tt, tt))))), tt),
  by_target (space_of Two unique_index (select_b a_is_seven)) (Access match_of_a) 21 (lit≤ tt) (access match_of_a (lit≤ tt) (2, lit≤ tt, refl), refl) tt refl ((lit≤ tt, (lit≤ tt, (lit≤ tt, (lit≤ tt, (lit≤ tt, tt))))), tt),
  by_target (space_of Two loaded (select_a a_is_two)) (Access scan) 12 (lit≤ tt) (access scan (lit≤ tt) (0, lit≤ tt, refl), refl) tt refl ((lit≤ tt, (lit≤ tt, (lit≤ tt, (lit≤ tt, (lit≤ tt, tt))))), tt),
  by_target (space_of Two (one_index None) (select_b a_is_not_seven)) (Access scan) 1490 (lit≤ tt) (access scan (lit≤ tt) (0, lit≤ tt, refl), refl) tt refl ((lit≤ tt, (lit≤ tt, (lit≤ tt, tt))), tt),
  by_target (space_of Two ranged (select_b above_75)) (Access match_of_a) 390 (lit≤ tt) (access match_of_a (lit≤ tt) (2, lit≤ tt, refl), refl) tt refl ((lit≤ tt, (lit≤ tt, (lit≤ tt, (lit≤ tt, (lit≤ tt, tt))))), tt),
  by_target (space_of Two ranged (select_b between_10_and_20)) (Access match_of_a) 160 (lit≤ tt) (access match_of_a (lit≤ tt) (2, lit≤ tt, refl), refl) tt refl ((lit≤ tt, (lit≤ tt, (lit≤ tt, (lit≤ tt, (lit≤ tt, tt))))), tt),
  by_target (space_of Two ranged (select_b a_or_b)) (Access scan) 609 (lit≤ tt) (access scan (lit≤ tt) (0, lit≤ tt, refl), refl) tt refl ((lit≤ tt, (lit≤ tt, (lit≤ tt, tt))), tt),
  by_target (space_of Two ranged (select_b quotient)) (Access scan) 1500 (lit≤ tt) (access scan (lit≤ tt) (0, lit≤ tt, refl), refl) tt refl ((lit≤ tt, (lit≤ tt, (lit≤ tt, tt))), tt),
)
one_index_targets Three = (
  by_target (space_of Three (one_index None) (select_b a_is_seven)) (Access match_of_a) 20 (lit≤ tt) (access match_of_a (lit≤ tt) (2, lit≤ tt, refl), refl) tt refl ((lit≤ tt, (lit≤ tt, (lit≤ tt, (lit≤ tt, (lit≤ tt, tt))))), tt),
  by_target (space_of Three unique_index (select_b a_is_seven)) (Access match_of_a) 21 (lit≤ tt) (access match_of_a (lit≤ tt) (2, lit≤ tt, refl), refl) tt refl ((lit≤ tt, (lit≤ tt, (lit≤ tt, (lit≤ tt, (lit≤ tt, tt))))), tt),
  by_target (space_of Three loaded (select_a a_is_two)) (Access scan) 12 (lit≤ tt) (access scan (lit≤ tt) (0, lit≤ tt, refl), refl) tt refl ((lit≤ tt, (lit≤ tt, (lit≤ tt, (lit≤ tt, (lit≤ tt, tt))))), tt),
  by_target (space_of Three (one_index None) (select_b a_is_not_seven)) (Access scan) 1490 (lit≤ tt) (access scan (lit≤ tt) (0, lit≤ tt, refl), refl) tt refl ((lit≤ tt, (lit≤ tt, (lit≤ tt, tt))), tt),
  by_target (space_of Three ranged (select_b above_75)) (Access match_of_a) 390 (lit≤ tt) (access match_of_a (lit≤ tt) (2, lit≤ tt, refl), refl) tt refl ((lit≤ tt, (lit≤ tt, (lit≤ tt, (lit≤ tt, (lit≤ tt, tt))))), tt),
  by_target (space_of Three ranged (select_b between_10_and_20)) (Access match_of_a) 160 (lit≤ tt) (access match_of_a (lit≤ tt) (2, lit≤ tt, refl), refl) tt refl ((lit≤ tt, (lit≤ tt, (lit≤ tt, (lit≤ tt, (lit≤ tt, tt))))), tt),
  by_target (space_of Three ranged (select_b a_or_b)) (Access scan) 609 (lit≤ tt) (access scan (lit≤ tt) (0, lit≤ tt, refl), refl) tt refl ((lit≤ tt, (lit≤ tt, (lit≤ tt, tt))), tt),
  by_target (space_of Three ranged (select_b quotient)) (Access scan) 1500 (lit≤ tt) (access scan (lit≤ tt) (0, lit≤ tt, refl), refl) tt refl ((lit≤ tt, (lit≤ tt, (lit≤ tt, tt))), tt),
)

pub two_columns_targets : TargetsOfTwoColumns
two_columns_targets = (
  by_target (space_of Two by_two both_equal) (Access (match_of (0 ∷ 1 ∷ []) false)) 20 (lit≤ tt) (access (match_of (0 ∷ 1 ∷ []) false) (lit≤ tt) (3, lit≤ tt, refl), refl) tt refl ((lit≤ tt, (lit≤ tt, (lit≤ tt, (lit≤ tt, (lit≤ tt, (lit≤ tt, (lit≤ tt, tt))))))), tt),
  by_target (space_of Two by_two both_equal) (Access (match_of (0 ∷ 1 ∷ []) true)) 20 (lit≤ tt) (access (match_of (0 ∷ 1 ∷ []) true) (lit≤ tt) (6, lit≤ tt, refl), refl) tt refl ((lit≤ tt, (lit≤ tt, (lit≤ tt, (lit≤ tt, (lit≤ tt, (lit≤ tt, (lit≤ tt, tt))))))), tt),
)

pub descending_target : BackwardGivesDescending
descending_target = by_target (space_of Two by_two descending) (Access (match_of (0 ∷ []) true)) 160 (lit≤ tt) (access (match_of (0 ∷ []) true) (lit≤ tt) (4, lit≤ tt, refl), refl) (refl, itself _, (refl, itself _, tt)) refl ((lit≤ tt, (lit≤ tt, (lit≤ tt, (lit≤ tt, (lit≤ tt, tt))))), tt)

-- ---- other targets

abbrev NoPair : Option Conjunct → Type 0
NoPair None = Unit {0}
NoPair (Some c) = c.equated ≡ None

none_paired : (g : ℕ) → NoPair (slice_get (plan_conjuncts (one_index None) (select_b a_is_seven)) g)
none_paired zero = refl
none_paired (suc g) = tt

of_pair : (o : Option (BlockColumn × BlockColumn)) (pair : BlockColumn × BlockColumn) → o ≡ None → o ≡ Some pair → ⊥
of_pair o pair e f = cc

none_equated : (version : Version) (g : ℕ) (x y : BlockColumn) → Equates (space_of version (one_index None) (select_b a_is_seven)) g x y → ⊥
none_equated version g x y (c, is, early, inl e) = let none : NoPair (Some c) = rw is at (none_paired g) in of_pair c.equated (x, y) none e
none_equated version g x y (c, is, early, inr e) = let none : NoPair (Some c) = rw is at (none_paired g) in of_pair c.equated (y, x) none e

no_use : (version : Version) (tables : TableSet) (order : Order) (useful : OpensMerge (space_of version (one_index None) (select_b a_is_seven)) tables order) → ⊥
no_use version tables [] none = none
no_use version tables (key ∷ rest) (forward, (number, x, y, is, lacks, same)) = none_equated version number x y is.0

of_no_use : (version : Version) (tables : TableSet) (order : OrderNumber) → IsUseful (space_of version (one_index None) (select_b a_is_seven)) tables order → ⊥
of_no_use version tables order (inl (some, gives)) = some refl
of_no_use version tables order (inr opens) = no_use version tables _ opens

pub other_targets : OtherTargetsAreRefused
other_targets One = (
  (1, 0, AccessStep match_of_a, _, by_access match_of_a 0 (lit≤ tt) (2, lit≤ tt, refl) (inr (of_no_use One 1 1, refl)), refl, lit≤ tt),
  not_met (space_of One (one_index None) (select_b a_is_seven)) (Access match_of_a) 19 (lit≤ tt) ((lit≤ tt, (lit≤ tt, (lit≤ tt, tt))), tt) (λ e. absurd (omega (arith, e))),
)
other_targets Two = (
  (1, 0, AccessStep match_of_a, _, by_access match_of_a 0 (lit≤ tt) (2, lit≤ tt, refl) (inr (of_no_use Two 1 1, refl)), refl, lit≤ tt),
  not_met (space_of Two (one_index None) (select_b a_is_seven)) (Access match_of_a) 19 (lit≤ tt) ((lit≤ tt, (lit≤ tt, (lit≤ tt, (lit≤ tt, (lit≤ tt, tt))))), tt) (λ e. absurd (omega (arith, e))),
)
other_targets Three = (
  (1, 0, AccessStep match_of_a, _, by_access match_of_a 0 (lit≤ tt) (2, lit≤ tt, refl) (inr (of_no_use Three 1 1, refl)), refl, lit≤ tt),
  not_met (space_of Three (one_index None) (select_b a_is_seven)) (Access match_of_a) 19 (lit≤ tt) ((lit≤ tt, (lit≤ tt, (lit≤ tt, (lit≤ tt, (lit≤ tt, tt))))), tt) (λ e. absurd (omega (arith, e))),
)
