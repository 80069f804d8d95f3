-- Certificates that computation shows to keep the rules. The test asks more than the rules do, as it doesn't decide which orders are of one
-- class or of use: whichever fold an order has, its bound must hold, and a merge is tried wherever both sides have some order.
use Prim.Native.Nat.{zero}
use Rattle.std.proofs.Common.{suc, ◌≡◌, ◌≢◌, ℕ, ◌+◌, ◌<◌, ◌≤◌, ◌⊎◌, inl, inr, refl, List, [], ◌∷◌, Bool, true, false, Option, Some, None, length, arith}
use Rattle.std.proofs.lemmas.Bool.{false≢true}
use Rattle.std.proofs.lemmas.Bool.Decides.{nat_tests}
use Rattle.std.proofs.lemmas.List.Sums.{list_all-from_AllPass}
use Rattle.std.specs.Prelude.{All, not, ◌&&◌, ◌||◌, nat_eq, nat_lt, nat_le, slice_get, slice_index_or}
use Rattle.std.specs.List.{list_all, range_with_len}
use Rattle.definitions.specs.Plans.TableSet.{TableSet, Has, no_tables, only, with_table}
use Rattle.definitions.specs.Plans.Order.{BlockColumn, SortKey, Order, OrderNumber, ascending}
use Rattle.definitions.specs.Plans.Conjunct.{Conjunct}
use Rattle.definitions.specs.Plans.Path.{Path, table_of}
use Rattle.definitions.specs.Plans.Plan.{Inner, Plan}
use Rattle.definitions.specs.Plans.Space.{Space, whole, order_at, IsOver}
use Rattle.definitions.specs.Plans.ColumnClass.{Satisfies}
use Rattle.definitions.specs.Plans.PlanSpace.{MayFollow, IsInner, InSpace, GivesRequired}
use Rattle.definitions.specs.Plans.Cost.{limit, saturated, loop_cost, merge_cost, cost_of}
use Rattle.definitions.specs.Plans.Folding.{Folds}
use Rattle.definitions.specs.Plans.Certificate.{StateCost, Certificate, Lists, bound, Precedes, AreRising, IsCertificate}
use Rattle.definitions.specs.Plans.Validity.{NoneFinal, KeepsBounds, IsValid}
use Rattle.definitions.proofs.PlanTheory.Rules.{AccessesHold, LoopsHold, MergesHold, SortsHold, together}
use Rattle.definitions.specs.Estimates.BlockTables.{has}
use Rattle.definitions.proofs.EstimateTheory.Tests.{left_of, right_of, other_of, le_of, lt_of, eq_of, passes, all_pass, range_pass, below_length, bit_is, bit_is_not, has_is, some_test, second_test, both_tests, not_true}
use Rattle.definitions.proofs.EstimateTheory.Waiting.{waits, may_not_follow}

-- ---- what is tested of steps

abbrev some_key : Order → Bool
some_key [] = false
some_key (key ∷ keys) = true

-- a conjunct's columns are of a set of tables and of one more
abbrev joins_pair : TableSet → ℕ → Option (BlockColumn × BlockColumn) → Bool
joins_pair tables table None = false
joins_pair tables table (Some (a, b)) = (has tables a.table && nat_eq b.table table) || (has tables b.table && nat_eq a.table table)

abbrev joins : TableSet → ℕ → Option Conjunct → Bool
joins tables table None = false
joins tables table (Some conjunct) = joins_pair tables table conjunct.equated

joins_is : (tables : TableSet) (table : ℕ) (o : Option Conjunct) (c : Conjunct) (x y : BlockColumn) → o ≡ Some c → (c.equated ≡ Some (x, y)) ⊎ (c.equated ≡ Some (y, x))
    → Has tables x.table → y.table ≡ table → joins tables table o ≡ true
joins_is tables table o c x y is (inl e) h at =
    rw is (rw e (some_test (has tables x.table && nat_eq y.table table) _ (both_tests _ _ (has_is tables x.table h) (same y.table table at))))
  where
    same : (a b : ℕ) → a ≡ b → nat_eq a b ≡ true
    same a b e = grind (arith, nat_tests, e)
joins_is tables table o c x y is (inr e) h at =
    rw is (rw e (second_test (has tables y.table && nat_eq x.table table) _ (both_tests _ _ (has_is tables x.table h) (same y.table table at))))
  where
    same : (a b : ℕ) → a ≡ b → nat_eq a b ≡ true
    same a b e = grind (arith, nat_tests, e)

module _ (space : Space) (certificate : Certificate) where
  abbrev reaches : TableSet → OrderNumber → ℕ → Bool
  reaches tables order cost = nat_le (bound certificate tables order) cost && nat_le (bound certificate tables 0) cost

  reached : (tables : TableSet) (order folded : OrderNumber) (cost : ℕ) → reaches tables order cost ≡ true → Folds space tables order folded → bound certificate tables folded ≤ cost
  reached tables order folded cost h (inl (useful, e)) = rw e (le_of _ _ (left_of _ _ h))
  reached tables order folded cost h (inr (useless, e)) = rw e (le_of _ _ (right_of _ _ h))

  abbrev accesses_pass : Bool
  accesses_pass = list_all (λ table. list_all (λ (path : Path). reaches (only table) (space.path_order path) (space.path_cost no_tables path)) (space.paths no_tables table))
      (range_with_len 0 space.table_count)

  abbrev ordered : OrderNumber → Bool
  ordered order = some_key (order_at space order)

  abbrev merge_passes : StateCost → ℕ → ℕ → Path → Bool → Bool
  merge_passes state table number path sorted =
      not (ordered state.order) || (not (joins state.tables table (slice_get space.conjuncts number)) || ((not sorted && not (ordered (space.path_order path)))
      || reaches (with_table state.tables table) state.order (saturated (bound certificate state.tables state.order + merge_cost space state.tables number (record { path = path; sorted = sorted })))))

  abbrev loop_passes : StateCost → ℕ → Path → Bool
  loop_passes state table path = reaches (with_table state.tables table) state.order (saturated (bound certificate state.tables state.order + loop_cost space state.tables path))

  abbrev table_passes : StateCost → ℕ → Bool
  table_passes state table =
      (has state.tables table || waits space state.tables table) || (list_all (loop_passes state table) (space.paths state.tables table)
      && list_all (λ number. list_all (λ path. merge_passes state table number path true && merge_passes state table number path false) (space.paths no_tables table)) (range_with_len 0 (length space.conjuncts)))

  abbrev joins_pass : Bool
  joins_pass = list_all (λ (state : StateCost). list_all (table_passes state) (range_with_len 0 space.table_count)) certificate.states

  abbrev over_passes : TableSet → OrderNumber → Bool
  over_passes tables order = list_all (λ (key : SortKey). has tables key.column.table) (order_at space order)

  abbrev sort_passes : StateCost → OrderNumber → Bool
  sort_passes state into =
      nat_eq into 0 || (not (over_passes state.tables into) || reaches state.tables into (saturated (bound certificate state.tables state.order + space.sort_cost state.tables)))

  abbrev sorts_pass : Bool
  sorts_pass = list_all (λ (state : StateCost). list_all (sort_passes state) (range_with_len 0 (length space.orders))) certificate.states

  -- ---- and that it suffices

  pub accesses : accesses_pass ≡ true → AccessesHold space certificate
  accesses h path folded lt there folds =
      reached (only (table_of path)) (space.path_order path) folded _ (passes _ (space.paths no_tables (table_of path)) path (range_pass _ 0 space.table_count (table_of path) h (omega arith) (omega (arith, lt))) there) folds

  neither : (tables : TableSet) (table : ℕ) → MayFollow space tables table → (has tables table || waits space tables table) ≡ false
  neither tables table follows = of_test (waits space tables table) refl
    where
      of_test : (t : Bool) → waits space tables table ≡ t → (has tables table || waits space tables table) ≡ false
      of_test true e = absurd (may_not_follow space tables table e follows)
      of_test false e = rw (bit_is_not _ follows.1, e) refl

  joins_at : joins_pass ≡ true → (tables : TableSet) (order : OrderNumber) (table : ℕ) (cost : ℕ) → Lists certificate.states tables order cost → MayFollow space tables table
      → (list_all (loop_passes (record { tables = tables; order = order; cost = cost }) table) (space.paths tables table)
      && list_all (λ number. list_all (λ path. merge_passes (record { tables = tables; order = order; cost = cost }) table number path true && merge_passes (record { tables = tables; order = order; cost = cost }) table number path false)
      (space.paths no_tables table)) (range_with_len 0 (length space.conjuncts))) ≡ true
  joins_at h tables order table cost there follows =
      other_of (has tables table || waits space tables table) _ (range_pass (table_passes (record { tables = tables; order = order; cost = cost })) 0 space.table_count table
      (passes (λ (state : StateCost). list_all (table_passes state) (range_with_len 0 space.table_count)) certificate.states (record { tables = tables; order = order; cost = cost }) h there)
      (omega arith) (let lt = follows.0 in omega (arith, lt))) (neither tables table follows)

  pub loops : joins_pass ≡ true → LoopsHold space certificate
  loops h tables order path folded (cost, listed) (follows, there) folds =
      reached (with_table tables (table_of path)) order folded _
      (passes (loop_passes (record { tables = tables; order = order; cost = cost }) (table_of path)) (space.paths tables (table_of path)) path
      (left_of _ _ (joins_at h tables order (table_of path) cost listed follows)) there) folds

  keyed : (tables : TableSet) (order : Order) (x : BlockColumn) → Satisfies space tables order (ascending x) → some_key order ≡ true
  keyed tables [] x none = absurd none
  keyed tables (key ∷ keys) x s = refl

  inner_keyed : (y : BlockColumn) (inner : Inner) → IsInner space y inner → (not inner.sorted && not (ordered (space.path_order inner.path))) ≡ false
  inner_keyed y inner (there, inl sorted) = rw sorted refl
  inner_keyed y inner (there, inr (unsorted, s)) = rw (unsorted, keyed _ (order_at space (space.path_order inner.path)) y s) refl

  by_sorted : (state : StateCost) (table number : ℕ) (path : Path) (sorted : Bool) → (merge_passes state table number path true && merge_passes state table number path false) ≡ true → merge_passes state table number path sorted ≡ true
  by_sorted state table number path true h = left_of _ _ h
  by_sorted state table number path false h = right_of _ _ h

  pub merges : joins_pass ≡ true → MergesHold space certificate
  merges h tables order number inner folded (cost, listed) (follows, (x, y, is, hx, at, in_order, is_inner)) folds =
      let state : StateCost = record { tables = tables; order = order; cost = cost } in
      let table : ℕ = table_of inner.path in
      let each = right_of _ _ (joins_at h tables order table cost listed follows) in
      let at_number = range_pass _ 0 (length space.conjuncts) number each (at_least_none number) (within (below_length space.conjuncts number is.0.0 is.0.1)) in
      let at_path = passes _ (space.paths no_tables table) inner.path at_number is_inner.0 in
      let tested = by_sorted state table number inner.path inner.sorted at_path in
      let first = other_of _ _ tested (not_true _ (keyed tables (order_at space order) x in_order)) in
      let second = other_of _ _ first (not_true _ (joins_is tables table (slice_get space.conjuncts number) is.0.0 x y is.0.1 is.0.3 hx at)) in
      reached (with_table tables table) order folded _ (other_of _ _ second (inner_keyed y inner is_inner)) folds
    where
      within : {a b : ℕ} → a < b → a < 0 + b
      within lt = omega (arith, lt)

      at_least_none : (n : ℕ) → 0 ≤ n
      at_least_none n = omega arith

  over_is : (tables : TableSet) (order : OrderNumber) → IsOver space tables order → over_passes tables order ≡ true
  over_is tables order is = list_all-from_AllPass (λ (key : SortKey). has tables key.column.table) (order_at space order) (λ k d lt. bit_is _ (is.1 k d lt))

  sorts : sorts_pass ≡ true → SortsHold space certificate
  sorts h tables order into folded (cost, listed) can folds =
      let state : StateCost = record { tables = tables; order = order; cost = cost } in
      let tested = range_pass (sort_passes state) 0 (length space.orders) into
      (passes (λ (state : StateCost). list_all (sort_passes state) (range_with_len 0 (length space.orders))) certificate.states state h listed) (omega arith) (within can.1.0) in
      let first = other_of _ _ tested (not_zero into can.0) in
      reached tables into folded _ (other_of _ _ first (not_true _ (over_is tables into can.1))) folds
    where
      not_zero : (n : ℕ) → n ≢ 0 → nat_eq n 0 ≡ false
      not_zero zero ne = absurd (ne refl)
      not_zero (suc n) ne = grind (arith, nat_tests)

      within : {a b : ℕ} → a < b → a < 0 + b
      within lt = omega (arith, lt)

  -- ---- the form

  -- a state on all tables has no order, and one is asked
  abbrev unfinished : StateCost → Bool
  unfinished state = nat_lt state.tables (whole space) || (some_key space.required && not (ordered state.order))

  abbrev state_passes : StateCost → Bool
  state_passes state =
      (nat_lt 0 state.tables && (nat_le state.tables (whole space) && unfinished state)) && ((nat_lt state.order (length space.orders) && over_passes state.tables state.order) && nat_lt state.cost certificate.target)

  abbrev precedes : StateCost → StateCost → Bool
  precedes a b = nat_lt a.tables b.tables || (nat_eq a.tables b.tables && nat_lt a.order b.order)

  abbrev rising_pass : List StateCost → Bool
  rising_pass [] = true
  rising_pass (state ∷ states) = list_all (precedes state) states && rising_pass states

  abbrev form_passes : Bool
  form_passes = nat_le certificate.target limit && (list_all state_passes certificate.states && rising_pass certificate.states)

  precede : (a b : StateCost) → precedes a b ≡ true → Precedes a b
  precede a b h = of_test (nat_lt a.tables b.tables) refl
    where
      of_test : (t : Bool) → nat_lt a.tables b.tables ≡ t → Precedes a b
      of_test true e = inl (lt_of _ _ e)
      of_test false e = let second = other_of _ _ h e in inr (eq_of _ _ (left_of _ _ second), lt_of _ _ (right_of _ _ second))

  rising : (states : List StateCost) → rising_pass states ≡ true → AreRising states
  rising [] h = tt
  rising (state ∷ states) h = (λ k d lt. precede state (slice_index_or states k d) (all_pass (precedes state) states (left_of _ _ h) k d lt), rising states (right_of _ _ h))

  pub over_of : (tables : TableSet) (order : OrderNumber) → over_passes tables order ≡ true → All (λ (key : SortKey). Has tables key.column.table) (order_at space order)
  over_of tables order h k d lt = eq_of _ 1 (all_pass (λ (key : SortKey). has tables key.column.table) (order_at space order) h k d lt)

  listed_pass : form_passes ≡ true → list_all state_passes certificate.states ≡ true
  listed_pass h = left_of (list_all state_passes certificate.states) (rising_pass certificate.states) (right_of (nat_le certificate.target limit) _ h)

  each_passes : form_passes ≡ true → All (λ state. state_passes state ≡ true) certificate.states
  each_passes h = all_pass state_passes certificate.states (listed_pass h)

  form : form_passes ≡ true → IsCertificate space certificate
  form h = record {
    target = le_of _ _ (left_of _ _ h);
    costs = λ k d lt. lt_of _ _ (right_of _ _ (right_of _ _ (each k d lt)));
    states = record {
      tables = λ k d lt. let both = left_of _ _ (each k d lt) in (lt_of _ _ (left_of _ _ both), le_of _ _ (left_of _ _ (right_of _ _ both)));
      orders = λ k d lt. let both = left_of _ _ (right_of _ _ (each k d lt)) in (lt_of _ _ (left_of _ _ both), over_of _ _ (right_of _ _ both));
      rising = rising certificate.states (right_of _ _ (right_of _ _ h));
    };
  }
    where
      each : All (λ state. state_passes state ≡ true) certificate.states
      each = each_passes h

  unfinished_of : (state : StateCost) → state_passes state ≡ true → unfinished state ≡ true
  unfinished_of state h = right_of _ _ (right_of _ _ (left_of _ _ h))

  -- no listed state on all tables gives the required order
  none_final : form_passes ≡ true → NoneFinal space certificate
  none_final h order (cost, listed) gives = of_order (order_at space order) space.required (other_of _ _ open_end (of_test (nat_lt (whole space) (whole space)) refl)) gives
    where
      open_end : unfinished (record { tables = whole space; order = order; cost = cost }) ≡ true
      open_end = unfinished_of (record { tables = whole space; order = order; cost = cost }) (passes state_passes certificate.states (record { tables = whole space; order = order; cost = cost }) (listed_pass h) listed)

      never : (n : ℕ) → n < n → ⊥
      never n lt = absurd (omega (arith, lt))

      of_test : (t : Bool) → nat_lt (whole space) (whole space) ≡ t → t ≡ false
      of_test true e = absurd (never (whole space) (lt_of _ _ e))
      of_test false e = refl

      of_order : (o r : Order) → (some_key r && not (some_key o)) ≡ true → Satisfies space (whole space) o r → ⊥
      of_order o [] e s = false≢true e
      of_order [] (key ∷ keys) e s = s
      of_order (k ∷ ks) (key ∷ keys) e s = false≢true e

  -- ---- together

  abbrev pub passes_test : Bool
  passes_test = form_passes && (accesses_pass && (joins_pass && sorts_pass))

  pub keeps : passes_test ≡ true → KeepsBounds space certificate
  keeps h =
      let rest = right_of _ _ h in let last = right_of _ _ rest in
      record { form = form (left_of _ _ h); comparisons = together space certificate (accesses (left_of _ _ rest)) (loops (left_of _ _ last)) (merges (left_of _ _ last)) (sorts (right_of _ _ last)) }

  pub valid_by_test : (plan : Plan) → passes_test ≡ true → InSpace space plan → GivesRequired space plan → cost_of space plan ≡ certificate.target → IsValid space plan certificate
  valid_by_test plan h inside gives costs = (keeps h, (none_final (left_of _ _ h), (inside, gives, costs)))
