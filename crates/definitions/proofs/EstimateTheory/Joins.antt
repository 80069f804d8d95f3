-- Certificates of joins: tested by computation, each listed cost attained by a plan.
use Rattle.definitions.specs.Plans.TableSet.{TableSet}
use Rattle.std.proofs.Common.{ℕ, ◌<◌, ◌≤◌, ◌∷◌, ◌≡◌, ◌≢◌, ◌⊎◌, inl, inr, refl, List, [], true, lit≤, arith}
use Rattle.std.proofs.lemmas.List.Elements.{All-from_recursion, All-contains}
use Rattle.std.specs.Prelude.{⊤}
use Rattle.std.specs.List.{AllByRecursion}
use Rattle.definitions.specs.Plans.Order.{Order, ascending}
use Rattle.definitions.specs.Plans.Path.{SegmentScan}
use Rattle.definitions.specs.Plans.Plan.{Plan, Loop, Sort}
use Rattle.definitions.specs.Plans.Space.{Space, whole, order_at}
use Rattle.definitions.specs.Plans.ColumnClass.{itself, chain}
use Rattle.definitions.specs.Plans.PlanSpace.{tables_of, order_of, IsPlan, access, loop, merge, sort, InSpace, GivesRequired}
use Rattle.definitions.specs.Plans.Cost.{cost_of}
use Rattle.definitions.specs.Plans.Folding.{OpensMerge, IsUseful, Folds, IsOn}
use Rattle.definitions.specs.Plans.Certificate.{StateCost, Certificate, bound}
use Rattle.definitions.specs.Plans.Comparisons.{AccessStep, SortStep, by_access, by_sort}
use Rattle.definitions.specs.Plans.Validity.{KeepsBounds, IsValid}
use Rattle.definitions.specs.Plans.Exact.{AreAttained}
use Rattle.definitions.specs.Estimates.Version.{One, Two, Three}
use Rattle.definitions.specs.Estimates.BlockSpace.{space_of}
use Rattle.definitions.specs.Examples.Estimates.Setups.{column_at, scan_of, state, certificate_of}
use Rattle.definitions.specs.Examples.Estimates.Joins.{unindexed, join, by_y, key_indexed, sorted_and_merged, key_join, join_certificate, ordered_certificate, key_certificate, JoinIsCertified, OrderedIsCertified, KeyJoinIsCertified, unsorted_certificate, HigherBoundsAreRefused}
use Rattle.definitions.specs.Examples.Estimates.Products.{small_and_great, product_pays, product_first, product_certificate, ProductIsCertified, late_space, LateProductsCostMore}
use Rattle.definitions.specs.Plans.Exact.{IsCertified}
use Rattle.definitions.proofs.PlanTheory.Rules.{accesses_rule, joins_rule}
use Rattle.definitions.proofs.PlanTheory.Bounds.{bounded, least}
use Rattle.definitions.proofs.PlanTheory.TableSets.{by_cases}
use Rattle.definitions.proofs.PlanTheory.Orders.{fold_of}
use Rattle.definitions.proofs.PlanTheory.Exactness.{exact}
use Rattle.definitions.proofs.EstimateTheory.Checked.{passes_test, valid_by_test, over_of, keeps, accesses, loops, merges}

-- some plan on a state has its cost
abbrev pub IsReached : Space → StateCost → Type 0
IsReached space state = (plan : Plan) × IsOn space state.tables state.order plan × (cost_of space plan ≡ state.cost)

attained : (space : Space) (states : List StateCost) → AllByRecursion (IsReached space) states → AreAttained space states
attained space states each tables order cost there =
    All-contains (IsReached space) states (record { tables = tables; order = order; cost = cost }) (All-from_recursion (IsReached space) states each) there

pub certified : (space : Space) (plan : Plan) (certificate : Certificate) → passes_test space certificate ≡ true → InSpace space plan → GivesRequired space plan
    → cost_of space plan ≡ certificate.target → AllByRecursion (IsReached space) certificate.states → IsCertified space plan certificate
certified space plan certificate test inside gives costs each =
    let valid : IsValid space plan certificate = valid_by_test space certificate plan test inside gives costs in
    (valid, exact space plan certificate valid (attained space certificate.states each), least space plan certificate valid)

abbrev no_keys : Order
no_keys = []

-- where no order is asked the empty one is of no use
of_none : ((no_keys ≢ no_keys) × ⊤) ⊎ ⊥ → ⊥
of_none (inl (some, gives)) = some refl
of_none (inr none) = none

-- ---- joined

joined_one_first : IsPlan (space_of One unindexed join) (Sort (scan_of 0) 1)
joined_one_first = sort (scan_of 0) 1 (access (SegmentScan 0) (lit≤ tt) (0, lit≤ tt, refl)) (λ e. absurd (omega (arith, e)), (lit≤ tt, over_of (space_of One unindexed join) join_certificate 1 1 refl))

joined_one_second : IsPlan (space_of One unindexed join) (Sort (scan_of 1) 2)
joined_one_second = sort (scan_of 1) 2 (access (SegmentScan 1) (lit≤ tt) (0, lit≤ tt, refl)) (λ e. absurd (omega (arith, e)), (lit≤ tt, over_of (space_of One unindexed join) join_certificate 2 2 refl))

joined_one_inside : InSpace (space_of One unindexed join) (sorted_and_merged 0 1 1)
joined_one_inside = (
  merge _ 0 _ joined_one_first
      ((lit≤ tt, refl, inr (inl (0, _, refl, refl, refl, (0, refl, refl), λ u h. h))), (column_at 0 0, column_at 1 0, ((_, refl, refl, inl refl), λ e. absurd (omega (arith, e))), refl, refl, (refl, itself _, tt), ((0, lit≤ tt, refl), inl refl))),
  refl,
)

joined_one_turned : InSpace (space_of One unindexed join) (sorted_and_merged 1 2 0)
joined_one_turned = (
  merge _ 0 _ joined_one_second
      ((lit≤ tt, refl, inr (inl (0, _, refl, refl, refl, (1, refl, refl), λ u h. h))), (column_at 1 0, column_at 0 0, ((_, refl, refl, inr refl), λ e. absurd (omega (arith, e))), refl, refl, (refl, itself _, tt), ((0, lit≤ tt, refl), inl refl))),
  refl,
)

joined_one_each : AllByRecursion (IsReached (space_of One unindexed join)) join_certificate.states
joined_one_each = (
  (scan_of 0, (access (SegmentScan 0) (lit≤ tt) (0, lit≤ tt, refl), refl, inr (λ u. of_none u, refl)), refl),
  (
    (Sort (scan_of 0) 1, (joined_one_first, refl, inl (inr (refl, (0, column_at 0 0, column_at 1 0, ((_, refl, refl, inl refl), λ e. absurd (omega (arith, e))), refl, itself _)), refl)), refl),
    (
      (scan_of 1, (access (SegmentScan 1) (lit≤ tt) (0, lit≤ tt, refl), refl, inr (λ u. of_none u, refl)), refl),
      ((Sort (scan_of 1) 2, (joined_one_second, refl, inl (inr (refl, (0, column_at 1 0, column_at 0 0, ((_, refl, refl, inr refl), λ e. absurd (omega (arith, e))), refl, itself _)), refl)), refl), tt),
    ),
  ),
)

joined_two_first : IsPlan (space_of Two unindexed join) (Sort (scan_of 0) 1)
joined_two_first = sort (scan_of 0) 1 (access (SegmentScan 0) (lit≤ tt) (0, lit≤ tt, refl)) (λ e. absurd (omega (arith, e)), (lit≤ tt, over_of (space_of Two unindexed join) join_certificate 1 1 refl))

joined_two_second : IsPlan (space_of Two unindexed join) (Sort (scan_of 1) 2)
joined_two_second = sort (scan_of 1) 2 (access (SegmentScan 1) (lit≤ tt) (0, lit≤ tt, refl)) (λ e. absurd (omega (arith, e)), (lit≤ tt, over_of (space_of Two unindexed join) join_certificate 2 2 refl))

joined_two_inside : InSpace (space_of Two unindexed join) (sorted_and_merged 0 1 1)
joined_two_inside = (
  merge _ 0 _ joined_two_first
      ((lit≤ tt, refl, inr (inl (0, _, refl, refl, refl, (0, refl, refl), λ u h. h))), (column_at 0 0, column_at 1 0, ((_, refl, refl, inl refl), λ e. absurd (omega (arith, e))), refl, refl, (refl, itself _, tt), ((0, lit≤ tt, refl), inl refl))),
  refl,
)

joined_two_turned : InSpace (space_of Two unindexed join) (sorted_and_merged 1 2 0)
joined_two_turned = (
  merge _ 0 _ joined_two_second
      ((lit≤ tt, refl, inr (inl (0, _, refl, refl, refl, (1, refl, refl), λ u h. h))), (column_at 1 0, column_at 0 0, ((_, refl, refl, inr refl), λ e. absurd (omega (arith, e))), refl, refl, (refl, itself _, tt), ((0, lit≤ tt, refl), inl refl))),
  refl,
)

joined_two_each : AllByRecursion (IsReached (space_of Two unindexed join)) join_certificate.states
joined_two_each = (
  (scan_of 0, (access (SegmentScan 0) (lit≤ tt) (0, lit≤ tt, refl), refl, inr (λ u. of_none u, refl)), refl),
  (
    (Sort (scan_of 0) 1, (joined_two_first, refl, inl (inr (refl, (0, column_at 0 0, column_at 1 0, ((_, refl, refl, inl refl), λ e. absurd (omega (arith, e))), refl, itself _)), refl)), refl),
    (
      (scan_of 1, (access (SegmentScan 1) (lit≤ tt) (0, lit≤ tt, refl), refl, inr (λ u. of_none u, refl)), refl),
      ((Sort (scan_of 1) 2, (joined_two_second, refl, inl (inr (refl, (0, column_at 1 0, column_at 0 0, ((_, refl, refl, inr refl), λ e. absurd (omega (arith, e))), refl, itself _)), refl)), refl), tt),
    ),
  ),
)

joined_three_first : IsPlan (space_of Three unindexed join) (Sort (scan_of 0) 1)
joined_three_first = sort (scan_of 0) 1 (access (SegmentScan 0) (lit≤ tt) (0, lit≤ tt, refl)) (λ e. absurd (omega (arith, e)), (lit≤ tt, over_of (space_of Three unindexed join) join_certificate 1 1 refl))

joined_three_second : IsPlan (space_of Three unindexed join) (Sort (scan_of 1) 2)
joined_three_second = sort (scan_of 1) 2 (access (SegmentScan 1) (lit≤ tt) (0, lit≤ tt, refl)) (λ e. absurd (omega (arith, e)), (lit≤ tt, over_of (space_of Three unindexed join) join_certificate 2 2 refl))

joined_three_inside : InSpace (space_of Three unindexed join) (sorted_and_merged 0 1 1)
joined_three_inside = (
  merge _ 0 _ joined_three_first
      ((lit≤ tt, refl, inr (inl (0, _, refl, refl, refl, (0, refl, refl), λ u h. h))), (column_at 0 0, column_at 1 0, ((_, refl, refl, inl refl), λ e. absurd (omega (arith, e))), refl, refl, (refl, itself _, tt), ((0, lit≤ tt, refl), inl refl))),
  refl,
)

joined_three_turned : InSpace (space_of Three unindexed join) (sorted_and_merged 1 2 0)
joined_three_turned = (
  merge _ 0 _ joined_three_second
      ((lit≤ tt, refl, inr (inl (0, _, refl, refl, refl, (1, refl, refl), λ u h. h))), (column_at 1 0, column_at 0 0, ((_, refl, refl, inr refl), λ e. absurd (omega (arith, e))), refl, refl, (refl, itself _, tt), ((0, lit≤ tt, refl), inl refl))),
  refl,
)

joined_three_each : AllByRecursion (IsReached (space_of Three unindexed join)) join_certificate.states
joined_three_each = (
  (scan_of 0, (access (SegmentScan 0) (lit≤ tt) (0, lit≤ tt, refl), refl, inr (λ u. of_none u, refl)), refl),
  (
    (Sort (scan_of 0) 1, (joined_three_first, refl, inl (inr (refl, (0, column_at 0 0, column_at 1 0, ((_, refl, refl, inl refl), λ e. absurd (omega (arith, e))), refl, itself _)), refl)), refl),
    (
      (scan_of 1, (access (SegmentScan 1) (lit≤ tt) (0, lit≤ tt, refl), refl, inr (λ u. of_none u, refl)), refl),
      ((Sort (scan_of 1) 2, (joined_three_second, refl, inl (inr (refl, (0, column_at 1 0, column_at 0 0, ((_, refl, refl, inr refl), λ e. absurd (omega (arith, e))), refl, itself _)), refl)), refl), tt),
    ),
  ),
)

pub joined : JoinIsCertified
joined One = (certified (space_of One unindexed join) (sorted_and_merged 0 1 1) join_certificate refl joined_one_inside tt refl joined_one_each, certified (space_of One unindexed join) (sorted_and_merged 1 2 0) join_certificate refl joined_one_turned tt refl joined_one_each)
joined Two = (certified (space_of Two unindexed join) (sorted_and_merged 0 1 1) join_certificate refl joined_two_inside tt refl joined_two_each, certified (space_of Two unindexed join) (sorted_and_merged 1 2 0) join_certificate refl joined_two_turned tt refl joined_two_each)
joined Three = (certified (space_of Three unindexed join) (sorted_and_merged 0 1 1) join_certificate refl joined_three_inside tt refl joined_three_each, certified (space_of Three unindexed join) (sorted_and_merged 1 2 0) join_certificate refl joined_three_turned tt refl joined_three_each)

-- ---- ordered

abbrev by_one_key : Order
by_one_key = ascending (column_at 1 0)

-- nor where a key is asked
of_key : ((by_one_key ≢ no_keys) × ⊥) ⊎ ⊥ → ⊥
of_key (inl (some, gives)) = gives
of_key (inr none) = none

ordered_one_first : IsPlan (space_of One unindexed by_y) (Sort (scan_of 0) 2)
ordered_one_first = sort (scan_of 0) 2 (access (SegmentScan 0) (lit≤ tt) (0, lit≤ tt, refl)) (λ e. absurd (omega (arith, e)), (lit≤ tt, over_of (space_of One unindexed by_y) ordered_certificate 1 2 refl))

ordered_one_second : IsPlan (space_of One unindexed by_y) (Sort (scan_of 1) 1)
ordered_one_second = sort (scan_of 1) 1 (access (SegmentScan 1) (lit≤ tt) (0, lit≤ tt, refl)) (λ e. absurd (omega (arith, e)), (lit≤ tt, over_of (space_of One unindexed by_y) ordered_certificate 2 1 refl))

ordered_one_inside : InSpace (space_of One unindexed by_y) (sorted_and_merged 0 2 1)
ordered_one_inside = (
  merge _ 0 _ ordered_one_first
      ((lit≤ tt, refl, inr (inl (0, _, refl, refl, refl, (0, refl, refl), λ u h. h))), (column_at 0 0, column_at 1 0, ((_, refl, refl, inl refl), λ e. absurd (omega (arith, e))), refl, refl, (refl, itself _, tt), ((0, lit≤ tt, refl), inl refl))),
  refl,
)

ordered_one_turned : InSpace (space_of One unindexed by_y) (sorted_and_merged 1 1 0)
ordered_one_turned = (
  merge _ 0 _ ordered_one_second
      ((lit≤ tt, refl, inr (inl (0, _, refl, refl, refl, (1, refl, refl), λ u h. h))), (column_at 1 0, column_at 0 0, ((_, refl, refl, inr refl), λ e. absurd (omega (arith, e))), refl, refl, (refl, itself _, tt), ((0, lit≤ tt, refl), inl refl))),
  refl,
)

ordered_one_each : AllByRecursion (IsReached (space_of One unindexed by_y)) ordered_certificate.states
ordered_one_each = (
  (scan_of 0, (access (SegmentScan 0) (lit≤ tt) (0, lit≤ tt, refl), refl, inr (λ u. of_key u, refl)), refl),
  (
    (Sort (scan_of 0) 2, (ordered_one_first, refl, inl (inr (refl, (0, column_at 0 0, column_at 1 0, ((_, refl, refl, inl refl), λ e. absurd (omega (arith, e))), refl, itself _)), refl)), refl),
    (
      (scan_of 1, (access (SegmentScan 1) (lit≤ tt) (0, lit≤ tt, refl), refl, inr (λ u. of_key u, refl)), refl),
      ((Sort (scan_of 1) 1, (ordered_one_second, refl, inl (inr (refl, (0, column_at 1 0, column_at 0 0, ((_, refl, refl, inr refl), λ e. absurd (omega (arith, e))), refl, itself _)), refl)), refl), tt),
    ),
  ),
)

ordered_two_first : IsPlan (space_of Two unindexed by_y) (Sort (scan_of 0) 2)
ordered_two_first = sort (scan_of 0) 2 (access (SegmentScan 0) (lit≤ tt) (0, lit≤ tt, refl)) (λ e. absurd (omega (arith, e)), (lit≤ tt, over_of (space_of Two unindexed by_y) ordered_certificate 1 2 refl))

ordered_two_second : IsPlan (space_of Two unindexed by_y) (Sort (scan_of 1) 1)
ordered_two_second = sort (scan_of 1) 1 (access (SegmentScan 1) (lit≤ tt) (0, lit≤ tt, refl)) (λ e. absurd (omega (arith, e)), (lit≤ tt, over_of (space_of Two unindexed by_y) ordered_certificate 2 1 refl))

ordered_two_inside : InSpace (space_of Two unindexed by_y) (sorted_and_merged 0 2 1)
ordered_two_inside = (
  merge _ 0 _ ordered_two_first
      ((lit≤ tt, refl, inr (inl (0, _, refl, refl, refl, (0, refl, refl), λ u h. h))), (column_at 0 0, column_at 1 0, ((_, refl, refl, inl refl), λ e. absurd (omega (arith, e))), refl, refl, (refl, itself _, tt), ((0, lit≤ tt, refl), inl refl))),
  refl,
)

ordered_two_turned : InSpace (space_of Two unindexed by_y) (sorted_and_merged 1 1 0)
ordered_two_turned = (
  merge _ 0 _ ordered_two_second
      ((lit≤ tt, refl, inr (inl (0, _, refl, refl, refl, (1, refl, refl), λ u h. h))), (column_at 1 0, column_at 0 0, ((_, refl, refl, inr refl), λ e. absurd (omega (arith, e))), refl, refl, (refl, itself _, tt), ((0, lit≤ tt, refl), inl refl))),
  refl,
)

ordered_two_each : AllByRecursion (IsReached (space_of Two unindexed by_y)) ordered_certificate.states
ordered_two_each = (
  (scan_of 0, (access (SegmentScan 0) (lit≤ tt) (0, lit≤ tt, refl), refl, inr (λ u. of_key u, refl)), refl),
  (
    (Sort (scan_of 0) 2, (ordered_two_first, refl, inl (inr (refl, (0, column_at 0 0, column_at 1 0, ((_, refl, refl, inl refl), λ e. absurd (omega (arith, e))), refl, itself _)), refl)), refl),
    (
      (scan_of 1, (access (SegmentScan 1) (lit≤ tt) (0, lit≤ tt, refl), refl, inr (λ u. of_key u, refl)), refl),
      ((Sort (scan_of 1) 1, (ordered_two_second, refl, inl (inr (refl, (0, column_at 1 0, column_at 0 0, ((_, refl, refl, inr refl), λ e. absurd (omega (arith, e))), refl, itself _)), refl)), refl), tt),
    ),
  ),
)

ordered_three_first : IsPlan (space_of Three unindexed by_y) (Sort (scan_of 0) 2)
ordered_three_first = sort (scan_of 0) 2 (access (SegmentScan 0) (lit≤ tt) (0, lit≤ tt, refl)) (λ e. absurd (omega (arith, e)), (lit≤ tt, over_of (space_of Three unindexed by_y) ordered_certificate 1 2 refl))

ordered_three_second : IsPlan (space_of Three unindexed by_y) (Sort (scan_of 1) 1)
ordered_three_second = sort (scan_of 1) 1 (access (SegmentScan 1) (lit≤ tt) (0, lit≤ tt, refl)) (λ e. absurd (omega (arith, e)), (lit≤ tt, over_of (space_of Three unindexed by_y) ordered_certificate 2 1 refl))

ordered_three_inside : InSpace (space_of Three unindexed by_y) (sorted_and_merged 0 2 1)
ordered_three_inside = (
  merge _ 0 _ ordered_three_first
      ((lit≤ tt, refl, inr (inl (0, _, refl, refl, refl, (0, refl, refl), λ u h. h))), (column_at 0 0, column_at 1 0, ((_, refl, refl, inl refl), λ e. absurd (omega (arith, e))), refl, refl, (refl, itself _, tt), ((0, lit≤ tt, refl), inl refl))),
  refl,
)

ordered_three_turned : InSpace (space_of Three unindexed by_y) (sorted_and_merged 1 1 0)
ordered_three_turned = (
  merge _ 0 _ ordered_three_second
      ((lit≤ tt, refl, inr (inl (0, _, refl, refl, refl, (1, refl, refl), λ u h. h))), (column_at 1 0, column_at 0 0, ((_, refl, refl, inr refl), λ e. absurd (omega (arith, e))), refl, refl, (refl, itself _, tt), ((0, lit≤ tt, refl), inl refl))),
  refl,
)

ordered_three_each : AllByRecursion (IsReached (space_of Three unindexed by_y)) ordered_certificate.states
ordered_three_each = (
  (scan_of 0, (access (SegmentScan 0) (lit≤ tt) (0, lit≤ tt, refl), refl, inr (λ u. of_key u, refl)), refl),
  (
    (Sort (scan_of 0) 2, (ordered_three_first, refl, inl (inr (refl, (0, column_at 0 0, column_at 1 0, ((_, refl, refl, inl refl), λ e. absurd (omega (arith, e))), refl, itself _)), refl)), refl),
    (
      (scan_of 1, (access (SegmentScan 1) (lit≤ tt) (0, lit≤ tt, refl), refl, inr (λ u. of_key u, refl)), refl),
      ((Sort (scan_of 1) 1, (ordered_three_second, refl, inl (inr (refl, (0, column_at 1 0, column_at 0 0, ((_, refl, refl, inr refl), λ e. absurd (omega (arith, e))), refl, itself _)), refl)), refl), tt),
    ),
  ),
)

pub ordered : OrderedIsCertified
ordered One = (certified (space_of One unindexed by_y) (sorted_and_merged 0 2 1) ordered_certificate refl ordered_one_inside (refl, chain 0 (column_at 0 0) (column_at 1 0) _ (_, refl, refl, inl refl) refl refl (itself _), tt) refl ordered_one_each, certified (space_of One unindexed by_y) (sorted_and_merged 1 1 0) ordered_certificate refl ordered_one_turned (refl, itself _, tt) refl ordered_one_each)
ordered Two = (certified (space_of Two unindexed by_y) (sorted_and_merged 0 2 1) ordered_certificate refl ordered_two_inside (refl, chain 0 (column_at 0 0) (column_at 1 0) _ (_, refl, refl, inl refl) refl refl (itself _), tt) refl ordered_two_each, certified (space_of Two unindexed by_y) (sorted_and_merged 1 1 0) ordered_certificate refl ordered_two_turned (refl, itself _, tt) refl ordered_two_each)
ordered Three = (certified (space_of Three unindexed by_y) (sorted_and_merged 0 2 1) ordered_certificate refl ordered_three_inside (refl, chain 0 (column_at 0 0) (column_at 1 0) _ (_, refl, refl, inl refl) refl refl (itself _), tt) refl ordered_three_each, certified (space_of Three unindexed by_y) (sorted_and_merged 1 1 0) ordered_certificate refl ordered_three_turned (refl, itself _, tt) refl ordered_three_each)

-- ---- keyed

keyed_one_first : IsPlan (space_of One key_indexed join) (Sort (scan_of 0) 1)
keyed_one_first = sort (scan_of 0) 1 (access (SegmentScan 0) (lit≤ tt) (0, lit≤ tt, refl)) (λ e. absurd (omega (arith, e)), (lit≤ tt, over_of (space_of One key_indexed join) (key_certificate 320 2000) 1 1 refl))

keyed_one_inside : InSpace (space_of One key_indexed join) key_join
keyed_one_inside = (loop _ _ (access (SegmentScan 0) (lit≤ tt) (0, lit≤ tt, refl)) ((lit≤ tt, refl, inr (inl (0, _, refl, refl, refl, (0, refl, refl), λ u h. h))), (2, lit≤ tt, refl)), refl)

keyed_one_each : AllByRecursion (IsReached (space_of One key_indexed join)) (key_certificate 320 2000).states
keyed_one_each = (
  (scan_of 0, (access (SegmentScan 0) (lit≤ tt) (0, lit≤ tt, refl), refl, inr (λ u. of_none u, refl)), refl),
  (
    (Sort (scan_of 0) 1, (keyed_one_first, refl, inl (inr (refl, (0, column_at 0 0, column_at 1 0, ((_, refl, refl, inl refl), λ e. absurd (omega (arith, e))), refl, itself _)), refl)), refl),
    ((scan_of 1, (access (SegmentScan 1) (lit≤ tt) (0, lit≤ tt, refl), refl, inr (λ u. of_none u, refl)), refl), tt),
  ),
)

keyed_two_first : IsPlan (space_of Two key_indexed join) (Sort (scan_of 0) 1)
keyed_two_first = sort (scan_of 0) 1 (access (SegmentScan 0) (lit≤ tt) (0, lit≤ tt, refl)) (λ e. absurd (omega (arith, e)), (lit≤ tt, over_of (space_of Two key_indexed join) (key_certificate 320 2000) 1 1 refl))

keyed_two_inside : InSpace (space_of Two key_indexed join) key_join
keyed_two_inside = (loop _ _ (access (SegmentScan 0) (lit≤ tt) (0, lit≤ tt, refl)) ((lit≤ tt, refl, inr (inl (0, _, refl, refl, refl, (0, refl, refl), λ u h. h))), (2, lit≤ tt, refl)), refl)

keyed_two_each : AllByRecursion (IsReached (space_of Two key_indexed join)) (key_certificate 320 2000).states
keyed_two_each = (
  (scan_of 0, (access (SegmentScan 0) (lit≤ tt) (0, lit≤ tt, refl), refl, inr (λ u. of_none u, refl)), refl),
  (
    (Sort (scan_of 0) 1, (keyed_two_first, refl, inl (inr (refl, (0, column_at 0 0, column_at 1 0, ((_, refl, refl, inl refl), λ e. absurd (omega (arith, e))), refl, itself _)), refl)), refl),
    ((scan_of 1, (access (SegmentScan 1) (lit≤ tt) (0, lit≤ tt, refl), refl, inr (λ u. of_none u, refl)), refl), tt),
  ),
)

keyed_three_first : IsPlan (space_of Three key_indexed join) (Sort (scan_of 0) 1)
keyed_three_first = sort (scan_of 0) 1 (access (SegmentScan 0) (lit≤ tt) (0, lit≤ tt, refl)) (λ e. absurd (omega (arith, e)), (lit≤ tt, over_of (space_of Three key_indexed join) (key_certificate 320 2000) 1 1 refl))

keyed_three_inside : InSpace (space_of Three key_indexed join) key_join
keyed_three_inside = (loop _ _ (access (SegmentScan 0) (lit≤ tt) (0, lit≤ tt, refl)) ((lit≤ tt, refl, inr (inl (0, _, refl, refl, refl, (0, refl, refl), λ u h. h))), (2, lit≤ tt, refl)), refl)

keyed_three_each : AllByRecursion (IsReached (space_of Three key_indexed join)) (key_certificate 320 2000).states
keyed_three_each = (
  (scan_of 0, (access (SegmentScan 0) (lit≤ tt) (0, lit≤ tt, refl), refl, inr (λ u. of_none u, refl)), refl),
  (
    (Sort (scan_of 0) 1, (keyed_three_first, refl, inl (inr (refl, (0, column_at 0 0, column_at 1 0, ((_, refl, refl, inl refl), λ e. absurd (omega (arith, e))), refl, itself _)), refl)), refl),
    ((scan_of 1, (access (SegmentScan 1) (lit≤ tt) (0, lit≤ tt, refl), refl, inr (λ u. of_none u, refl)), refl), tt),
  ),
)

pub keyed : KeyJoinIsCertified
keyed One = (
  certified (space_of One key_indexed join) key_join (key_certificate 320 2000) refl keyed_one_inside tt refl keyed_one_each,
  valid_by_test (space_of One key_indexed join) (key_certificate 319 2000) key_join refl keyed_one_inside tt refl,
  valid_by_test (space_of One key_indexed join) (key_certificate 320 1220) key_join refl keyed_one_inside tt refl,
)
keyed Two = (
  certified (space_of Two key_indexed join) key_join (key_certificate 320 2000) refl keyed_two_inside tt refl keyed_two_each,
  valid_by_test (space_of Two key_indexed join) (key_certificate 319 2000) key_join refl keyed_two_inside tt refl,
  valid_by_test (space_of Two key_indexed join) (key_certificate 320 1220) key_join refl keyed_two_inside tt refl,
)
keyed Three = (
  certified (space_of Three key_indexed join) key_join (key_certificate 320 2000) refl keyed_three_inside tt refl keyed_three_each,
  valid_by_test (space_of Three key_indexed join) (key_certificate 319 2000) key_join refl keyed_three_inside tt refl,
  valid_by_test (space_of Three key_indexed join) (key_certificate 320 1220) key_join refl keyed_three_inside tt refl,
)

-- ---- a product that pays

paying_first : IsPlan (space_of Three small_and_great product_pays) (Sort (scan_of 0) 1)
paying_first = sort (scan_of 0) 1 (access (SegmentScan 0) (lit≤ tt) (0, lit≤ tt, refl)) (λ e. absurd (omega (arith, e)), (lit≤ tt, over_of (space_of Three small_and_great product_pays) product_certificate 1 1 refl))

paying_second : IsPlan (space_of Three small_and_great product_pays) (Sort (scan_of 1) 3)
paying_second = sort (scan_of 1) 3 (access (SegmentScan 1) (lit≤ tt) (0, lit≤ tt, refl)) (λ e. absurd (omega (arith, e)), (lit≤ tt, over_of (space_of Three small_and_great product_pays) product_certificate 2 3 refl))

paying_product : IsPlan (space_of Three small_and_great product_pays) (Loop (scan_of 0) (SegmentScan 1))
paying_product = loop _ _ (access (SegmentScan 0) (lit≤ tt) (0, lit≤ tt, refl)) ((lit≤ tt, refl, inl refl), (0, lit≤ tt, refl))

paying_inside : InSpace (space_of Three small_and_great product_pays) product_first
paying_inside = (loop _ _ paying_product ((lit≤ tt, refl, inl refl), (3, lit≤ tt, refl)), refl)

paying_each : AllByRecursion (IsReached (space_of Three small_and_great product_pays)) product_certificate.states
paying_each = (
  (scan_of 0, (access (SegmentScan 0) (lit≤ tt) (0, lit≤ tt, refl), refl, inr (λ u. of_none u, refl)), refl),
  (
    (Sort (scan_of 0) 1, (paying_first, refl, inl (inr (refl, (0, column_at 0 0, column_at 2 0, ((_, refl, refl, inl refl), λ e. absurd (omega (arith, e))), refl, itself _)), refl)), refl),
    (
      (scan_of 1, (access (SegmentScan 1) (lit≤ tt) (0, lit≤ tt, refl), refl, inr (λ u. of_none u, refl)), refl),
      (
        (Sort (scan_of 1) 3, (paying_second, refl, inl (inr (refl, (1, column_at 1 0, column_at 2 1, ((_, refl, refl, inl refl), λ e. absurd (omega (arith, e))), refl, itself _)), refl)), refl),
        (
          (Loop (scan_of 0) (SegmentScan 1), (paying_product, refl, inr (λ u. of_none u, refl)), refl),
          (
            (Loop (Sort (scan_of 0) 1) (SegmentScan 1), (loop _ _ (paying_first) ((lit≤ tt, refl, inl refl), (0, lit≤ tt, refl)), refl, inl (inr (refl, (0, column_at 0 0, column_at 2 0, ((_, refl, refl, inl refl), λ e. absurd (omega (arith, e))), refl, itself _)), refl)), refl),
            ((Loop (Sort (scan_of 1) 3) (SegmentScan 0), (loop _ _ (paying_second) ((lit≤ tt, refl, inl refl), (0, lit≤ tt, refl)), refl, inl (inr (refl, (1, column_at 1 0, column_at 2 1, ((_, refl, refl, inl refl), λ e. absurd (omega (arith, e))), refl, itself _)), refl)), refl), tt),
          ),
        ),
      ),
    ),
  ),
)

pub paying : ProductIsCertified
paying = certified (space_of Three small_and_great product_pays) product_first product_certificate refl paying_inside tt refl paying_each

-- ---- bounds that are too high

no_order : (space : Space) (tables : TableSet) → space.required ≡ [] → order_at space 0 ≡ [] → IsUseful space tables 0 → ⊥
no_order space tables e f (inl (some, gives)) = some e
no_order space tables e f (inr opens) = let none : OpensMerge space tables [] = rw f at opens in none

pub refused : HigherBoundsAreRefused
refused One = (
  (
    accesses_rule (space_of One key_indexed join) (key_certificate 320 1219) (accesses (space_of One key_indexed join) (key_certificate 320 1219) refl),
    joins_rule (space_of One key_indexed join) (key_certificate 320 1219) (loops (space_of One key_indexed join) (key_certificate 320 1219) refl) (merges (space_of One key_indexed join) (key_certificate 320 1219) refl),
    (
      2,
      2,
      SortStep 2,
      2299,
      by_sort 2 0 2 2 (1219, (2, lit≤ tt, refl)) (λ e. absurd (omega (arith, e)), (lit≤ tt, over_of (space_of One key_indexed join) (key_certificate 320 1219) 2 2 refl)) (inl (inr (refl, (0, column_at 1 0, column_at 0 0, ((_, refl, refl, inr refl), λ e. absurd (omega (arith, e))), refl, itself _)), refl)),
      refl,
      lit≤ tt,
    ),
  ),
  (2, 0, AccessStep (SegmentScan 1), 2000, by_access (SegmentScan 1) 0 (lit≤ tt) (0, lit≤ tt, refl) (inr (no_order (space_of One key_indexed join) 2 refl refl, refl)), refl, lit≤ tt),
  (
    accesses_rule (space_of One key_indexed join) unsorted_certificate (accesses (space_of One key_indexed join) unsorted_certificate refl),
    joins_rule (space_of One key_indexed join) unsorted_certificate (loops (space_of One key_indexed join) unsorted_certificate refl) (merges (space_of One key_indexed join) unsorted_certificate refl),
    (
      1,
      1,
      SortStep 1,
      320,
      by_sort 1 0 1 1 (200, (0, lit≤ tt, refl)) (λ e. absurd (omega (arith, e)), (lit≤ tt, over_of (space_of One key_indexed join) unsorted_certificate 1 1 refl)) (inl (inr (refl, (0, column_at 0 0, column_at 1 0, ((_, refl, refl, inl refl), λ e. absurd (omega (arith, e))), refl, itself _)), refl)),
      refl,
      lit≤ tt,
    ),
  ),
)
refused Two = (
  (
    accesses_rule (space_of Two key_indexed join) (key_certificate 320 1219) (accesses (space_of Two key_indexed join) (key_certificate 320 1219) refl),
    joins_rule (space_of Two key_indexed join) (key_certificate 320 1219) (loops (space_of Two key_indexed join) (key_certificate 320 1219) refl) (merges (space_of Two key_indexed join) (key_certificate 320 1219) refl),
    (
      2,
      2,
      SortStep 2,
      2299,
      by_sort 2 0 2 2 (1219, (2, lit≤ tt, refl)) (λ e. absurd (omega (arith, e)), (lit≤ tt, over_of (space_of Two key_indexed join) (key_certificate 320 1219) 2 2 refl)) (inl (inr (refl, (0, column_at 1 0, column_at 0 0, ((_, refl, refl, inr refl), λ e. absurd (omega (arith, e))), refl, itself _)), refl)),
      refl,
      lit≤ tt,
    ),
  ),
  (2, 0, AccessStep (SegmentScan 1), 2000, by_access (SegmentScan 1) 0 (lit≤ tt) (0, lit≤ tt, refl) (inr (no_order (space_of Two key_indexed join) 2 refl refl, refl)), refl, lit≤ tt),
  (
    accesses_rule (space_of Two key_indexed join) unsorted_certificate (accesses (space_of Two key_indexed join) unsorted_certificate refl),
    joins_rule (space_of Two key_indexed join) unsorted_certificate (loops (space_of Two key_indexed join) unsorted_certificate refl) (merges (space_of Two key_indexed join) unsorted_certificate refl),
    (
      1,
      1,
      SortStep 1,
      320,
      by_sort 1 0 1 1 (200, (0, lit≤ tt, refl)) (λ e. absurd (omega (arith, e)), (lit≤ tt, over_of (space_of Two key_indexed join) unsorted_certificate 1 1 refl)) (inl (inr (refl, (0, column_at 0 0, column_at 1 0, ((_, refl, refl, inl refl), λ e. absurd (omega (arith, e))), refl, itself _)), refl)),
      refl,
      lit≤ tt,
    ),
  ),
)
refused Three = (
  (
    accesses_rule (space_of Three key_indexed join) (key_certificate 320 1219) (accesses (space_of Three key_indexed join) (key_certificate 320 1219) refl),
    joins_rule (space_of Three key_indexed join) (key_certificate 320 1219) (loops (space_of Three key_indexed join) (key_certificate 320 1219) refl) (merges (space_of Three key_indexed join) (key_certificate 320 1219) refl),
    (
      2,
      2,
      SortStep 2,
      2299,
      by_sort 2 0 2 2 (1219, (2, lit≤ tt, refl)) (λ e. absurd (omega (arith, e)), (lit≤ tt, over_of (space_of Three key_indexed join) (key_certificate 320 1219) 2 2 refl)) (inl (inr (refl, (0, column_at 1 0, column_at 0 0, ((_, refl, refl, inr refl), λ e. absurd (omega (arith, e))), refl, itself _)), refl)),
      refl,
      lit≤ tt,
    ),
  ),
  (2, 0, AccessStep (SegmentScan 1), 2000, by_access (SegmentScan 1) 0 (lit≤ tt) (0, lit≤ tt, refl) (inr (no_order (space_of Three key_indexed join) 2 refl refl, refl)), refl, lit≤ tt),
  (
    accesses_rule (space_of Three key_indexed join) unsorted_certificate (accesses (space_of Three key_indexed join) unsorted_certificate refl),
    joins_rule (space_of Three key_indexed join) unsorted_certificate (loops (space_of Three key_indexed join) unsorted_certificate refl) (merges (space_of Three key_indexed join) unsorted_certificate refl),
    (
      1,
      1,
      SortStep 1,
      320,
      by_sort 1 0 1 1 (200, (0, lit≤ tt, refl)) (λ e. absurd (omega (arith, e)), (lit≤ tt, over_of (space_of Three key_indexed join) unsorted_certificate 1 1 refl)) (inl (inr (refl, (0, column_at 0 0, column_at 1 0, ((_, refl, refl, inl refl), λ e. absurd (omega (arith, e))), refl, itself _)), refl)),
      refl,
      lit≤ tt,
    ),
  ),
)

-- ---- products that come last

abbrev late_certificate : Certificate
late_certificate = certificate_of 100001 (state 1 0 20 ∷ state 1 1 50 ∷ state 2 0 20 ∷ state 2 3 50 ∷ [])

late_keeps : KeepsBounds late_space late_certificate
late_keeps = keeps late_space late_certificate refl

pub late : LateProductsCostMore
late plan (is_plan, all) = over (by_cases (IsUseful late_space (tables_of late_space plan) (order_of late_space plan)) 100001 (cost_of late_space plan) (λ u. at_fold (fold_of late_space _ _ u)))
  where
    at_fold : (k : ℕ) × Folds late_space (tables_of late_space plan) (order_of late_space plan) k → 100001 ≤ cost_of late_space plan
    at_fold (k, folds) =
        let low = bounded late_space late_certificate late_keeps plan is_plan k folds in
        let low' : bound late_certificate (whole late_space) k ≤ cost_of late_space plan = rw all at low in
        low'

    over : {n : ℕ} → 100001 ≤ n → 100000 < n
    over le = omega (arith, le)
