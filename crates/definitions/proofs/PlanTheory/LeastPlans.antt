-- No complete space is without a least plan and its exact certificate. That there is none is refuted, since it isn't decided which orders are
-- useful: each state may have a plan or none, and where it has one, one of them costs least.
use Prim.Native.Nat.{zero}
use Rattle.std.proofs.Common.{suc, ap, sym, subst, ◌∙◌, ◌≡◌, ℕ, ◌+◌, ◌*◌, ◌^◌, ◌<◌, ◌≤◌, ◌⊎◌, inl, inr, List, [], ◌∷◌, length, get_or, arith, refl}
use Rattle.std.proofs.lemmas.Bool.{cases_lt}
use Rattle.std.proofs.lemmas.Nat.{or_lt, le_or_l, pow_pos}
use Rattle.std.proofs.Math.Pow.{pow-lt}
use Rattle.std.proofs.lemmas.List.Elements.{Contains-get_or}
use Rattle.std.specs.Prelude.{All}
use Rattle.definitions.specs.Plans.TableSet.{only, with_table}
use Rattle.definitions.specs.Plans.Path.{SegmentScan, Path, table_of}
use Rattle.definitions.specs.Plans.Plan.{Inner, Plan, Access, Loop, Merge, Sort}
use Rattle.definitions.specs.Plans.Space.{Space, whole, IsOver}
use Rattle.definitions.specs.Plans.PlanSpace.{CanLoop, CanMerge, CanSort, tables_of, order_of, IsPlan, access, loop, merge, sort, InSpace, GivesRequired}
use Rattle.definitions.specs.Plans.Cost.{limit, saturated, loop_cost, merge_cost, cost_of}
use Rattle.definitions.specs.Plans.Least.{IsLeast}
use Rattle.definitions.specs.Plans.Folding.{Folds, IsOn, IsLeastCost}
use Rattle.definitions.specs.Plans.Certificate.{StateCost, Certificate, Lists, IsListed, bound, Precedes, AreRising}
use Rattle.definitions.specs.Plans.Exact.{IsCertified}
use Rattle.definitions.specs.Certificates.Form.{word_count}
use Rattle.definitions.specs.Plans.Search.{as_bounds, IsSolved, IsCheapest, certificate_below, IsComplete}
use Rattle.definitions.proofs.PlanTheory.Rules.{together}
use Rattle.definitions.proofs.PlanTheory.TableSets.{Decided}
use Rattle.definitions.proofs.PlanTheory.Elements.{first_or_rest, later, not_in_empty}
use Rattle.definitions.proofs.PlanTheory.Orders.{merge_order, refold, state_over}
use Rattle.definitions.proofs.PlanTheory.Bounds.{here}
use Rattle.definitions.proofs.PlanTheory.Exactness.{listed_cost}
use Rattle.definitions.proofs.PlanTheory.Growing.{has_plan}
use Rattle.definitions.proofs.PlanTheory.ShortPlans.{shorter, short, few_words}
use Rattle.definitions.proofs.PlanTheory.Finding.{kept_ordered, searched_whole}
use Rattle.definitions.proofs.PlanTheory.Verdicts.{at_most}

-- what is to be refuted may be refuted by cases of anything
pub undecided : (A : Type 0) → (Decided A → ⊥) → ⊥
undecided A none = none (inr (λ a. none (inl a)))

-- where no number is the least one of which a fact holds, it holds of none
none_below : (P : ℕ → Type 0) → ((n : ℕ) → P n → ((m : ℕ) → P m → n ≤ m) → ⊥) → (bound n : ℕ) → n < bound → P n → ⊥
none_below P none zero n lt p = absurd (omega (arith, lt))
none_below P none (suc b) n lt p = none n p (λ m q. at_most n m (λ less. none_below P none b m (omega (arith, lt, less)) q))

module _ (space : Space) (complete : IsComplete space) where
  -- ---- states with a plan

  some_tables : (p : Plan) → IsPlan space p → 0 < tables_of space p
  some_tables (Access a) (access a' lt r) = pow_pos (table_of a)
  some_tables (Loop p a) (loop p' a' r can) = let some = some_tables p r in omega (arith, some, le_or_l (tables_of space p) (2 ^ table_of a))
  some_tables (Merge p g i) (merge p' g' i' r can) = let some = some_tables p r in omega (arith, some, le_or_l (tables_of space p) (2 ^ table_of i.path))
  some_tables (Sort p k) (sort p' k' r can) = some_tables p r

  tables_below : (p : Plan) → IsPlan space p → tables_of space p < 2 ^ space.table_count
  tables_below (Access a) (access a' lt r) = pow-lt lt
  tables_below (Loop p a) (loop p' a' r can) = or_lt space.table_count (tables_of space p) (2 ^ table_of a) (tables_below p r) (pow-lt can.0.0)
  tables_below (Merge p g i) (merge p' g' i' r can) = or_lt space.table_count (tables_of space p) (2 ^ table_of i.path) (tables_below p r) (pow-lt can.0.0)
  tables_below (Sort p k) (sort p' k' r can) = tables_below p r

  state_some : (s k : ℕ) (p : Plan) → IsOn space s k p → 0 < s
  state_some s k p (r, on, folds) = let some = some_tables p r in omega (arith, some, on)

  state_within : (s k : ℕ) (p : Plan) → IsOn space s k p → s ≤ whole space
  state_within s k p (r, on, folds) = let below = tables_below p r in omega (arith, below, on)

  state_numbered : (s k : ℕ) (p : Plan) → IsOn space s k p → IsOver space s k
  state_numbered s k p on =
      let scanned = (complete.ordered (SegmentScan 0) complete.some (complete.scans 0 0 complete.some)).0 in
      state_over space complete (omega (arith, scanned)) s k p on

  -- ---- the least costs of the states from one on

  abbrev After : ℕ → ℕ → ℕ → ℕ → Type 0
  After s k s' k' = (s < s') ⊎ ((s ≡ s') × (k ≤ k'))

  record AreSolved (s k : ℕ) (xs : List StateCost) : Type 0 where
    rising : AreRising xs
    each : (s' k' w : ℕ) → Lists xs s' k' w → After s k s' k' × IsLeastCost space s' k' w
    all : (s' k' w : ℕ) → After s k s' k' → IsLeastCost space s' k' w → Lists xs s' k' w

  one_cost : (s k w w' : ℕ) → IsLeastCost space s k w → IsLeastCost space s k w' → w ≡ w'
  one_cost s k w w' ((p, on, e), low) ((p', on', e'), low') =
      let under = low p' on' in
      let over = low' p on in
      omega (arith, under, over, e, e')

  wider : (s k s' k' : ℕ) → After s (suc k) s' k' → After s k s' k'
  wider s k s' k' (inl lt) = inl lt
  wider s k s' k' (inr (e, le)) = inr (e, omega (arith, le))

  -- with one state more, which has a plan or none
  with_state : (s k : ℕ) (xs : List StateCost) → AreSolved s (suc k) xs → Decided ((w : ℕ) × IsLeastCost space s k w) → (ys : List StateCost) × AreSolved s k ys
  with_state s k xs v (inr none) = (xs, record { rising = v.rising; each = λ s' k' w l. let r = v.each s' k' w l in (wider s k s' k' r.0, r.1); all = all })
    where
      all : (s' k' w : ℕ) → After s k s' k' → IsLeastCost space s' k' w → Lists xs s' k' w
      all s' k' w (inl lt) least = v.all s' k' w (inl lt) least
      all s' k' w (inr (e, le)) least = of_order (cases_lt k k')
        where
          of_order : (k < k') ⊎ (k' ≤ k) → Lists xs s' k' w
          of_order (inl lt) = v.all s' k' w (inr (e, omega (arith, lt))) least
          of_order (inr ge) = let same : k ≡ k' = omega (arith, le, ge) in absurd (none (w, rw (e, same) least))
  with_state s k xs v (inl (w, least)) = (x ∷ xs, record { rising = (before, v.rising); each = each; all = all })
    where
      x : StateCost
      x = record { tables = s; order = k; cost = w }

      precedes : (y : StateCost) → After s (suc k) y.tables y.order → Precedes x y
      precedes y (inl lt) = inl lt
      precedes y (inr (e, le)) = inr (e, omega (arith, le))

      before : All (Precedes x) xs
      before i d lt = let y = get_or xs i d in precedes y (v.each y.tables y.order y.cost (Contains-get_or xs i d lt)).0

      each : (s' k' c : ℕ) → Lists (x ∷ xs) s' k' c → After s k s' k' × IsLeastCost space s' k' c
      each s' k' c there = of_place (first_or_rest x xs (record { tables = s'; order = k'; cost = c }) there)
        where
          of_place : (x ≡ record { tables = s'; order = k'; cost = c }) ⊎ Lists xs s' k' c → After s k s' k' × IsLeastCost space s' k' c
          of_place (inl e) = subst (λ (y : StateCost). After s k y.tables y.order × IsLeastCost space y.tables y.order y.cost) e (inr (refl, omega arith), least)
          of_place (inr l) = let r = v.each s' k' c l in (wider s k s' k' r.0, r.1)

      all : (s' k' c : ℕ) → After s k s' k' → IsLeastCost space s' k' c → Lists (x ∷ xs) s' k' c
      all s' k' c (inl lt) least' = later x xs _ (v.all s' k' c (inl lt) least')
      all s' k' c (inr (e, le)) least' = of_order (cases_lt k k')
        where
          of_order : (k < k') ⊎ (k' ≤ k) → Lists (x ∷ xs) s' k' c
          of_order (inl lt) = later x xs _ (v.all s' k' c (inr (e, omega (arith, lt))) least')
          of_order (inr ge) =
              let same : k ≡ k' = omega (arith, le, ge) in
              let own : IsLeastCost space s' k' w = rw (e, same) at least in
              subst (λ n. Lists (x ∷ xs) s' k' n) (one_cost s' k' w c own least') (here x xs s' k' e same)

  -- of a set's states there are no more than orders
  before_set : (s : ℕ) (xs : List StateCost) → AreSolved (suc s) 0 xs → AreSolved s (length space.orders) xs
  before_set s xs v = record { rising = v.rising; each = λ s' k' w l. let r = v.each s' k' w l in (behind s' k' r.0, r.1); all = all }
    where
      behind : (s' k' : ℕ) → After (suc s) 0 s' k' → After s (length space.orders) s' k'
      behind s' k' (inl lt) = inl (omega (arith, lt))
      behind s' k' (inr (e, le)) = inl (omega (arith, e))

      all : (s' k' w : ℕ) → After s (length space.orders) s' k' → IsLeastCost space s' k' w → Lists xs s' k' w
      all s' k' w (inl lt) least = v.all s' k' w (of_order (cases_lt (suc s) s')) least
        where
          of_order : (suc s < s') ⊎ (s' ≤ suc s) → After (suc s) 0 s' k'
          of_order (inl less) = inl less
          of_order (inr le) = inr (omega (arith, lt, le), omega arith)
      all s' k' w (inr (e, le)) ((p, on, is), low) = let (lt, own) = state_numbered s' k' p on in absurd (omega (arith, lt, le))

  begins : AreSolved (suc (whole space)) 0 []
  begins = record { rising = tt; each = λ s k w l. absurd (not_in_empty _ l); all = beyond }
    where
      beyond : (s k w : ℕ) → After (suc (whole space)) 0 s k → IsLeastCost space s k w → Lists [] s k w
      beyond s k w (inl lt) ((p, on, is), low) = let le = state_within s k p on in absurd (omega (arith, lt, le))
      beyond s k w (inr (e, le)) ((p, on, is), low) = let within = state_within s k p on in absurd (omega (arith, e, within))

  each_order : (s k : ℕ) (xs : List StateCost) → AreSolved s k xs → ((ys : List StateCost) → AreSolved s 0 ys → ⊥) → ⊥
  each_order s zero xs v none = none xs v
  each_order s (suc k) xs v none = undecided ((w : ℕ) × IsLeastCost space s k w) (λ d. let (ys, next) = with_state s k xs v d in each_order s k ys next none)

  each_set : (s : ℕ) (xs : List StateCost) → AreSolved s 0 xs → ((ys : List StateCost) → AreSolved 0 0 ys → ⊥) → ⊥
  each_set zero xs v none = none xs v
  each_set (suc s) xs v none = each_order s (length space.orders) xs (before_set s xs v) (λ ys next. each_set s ys next none)

  from_first : (s k : ℕ) → After 0 0 s k
  from_first zero k = inr (refl, omega arith)
  from_first (suc s) k = inl (omega arith)

  -- ---- all states solved, a least plan is the cheapest

  module _ (xs : List StateCost) (v : AreSolved 0 0 xs) where
    abbrev CostsOn : ℕ → ℕ → ℕ → Type 0
    CostsOn s k w = (q : Plan) × IsOn space s k q × (cost_of space q ≡ w)

    low : (s k : ℕ) (p : Plan) → IsOn space s k p → bound (as_bounds xs) s k ≤ cost_of space p
    low s k p on = at_most _ _ (λ less. none_below (CostsOn s k) (of_least less) (suc (cost_of space p)) (cost_of space p) (omega arith) (p, on, refl))
      where
        of_least : cost_of space p < bound (as_bounds xs) s k → (w : ℕ) → CostsOn s k w → ((m : ℕ) → CostsOn s k m → w ≤ m) → ⊥
        of_least less w there lowest =
            let listed = v.all s k w (from_first s k) (there, λ q on'. lowest (cost_of space q) (q, on', refl)) in
            let is = listed_cost (limit + 1) xs s k w v.rising listed in
            let least = lowest (cost_of space p) (p, on, refl) in
            absurd (omega (arith, less, is, least))

    plan_of : (s k : ℕ) → IsListed (as_bounds xs) s k → (p : Plan) × IsOn space s k p × (cost_of space p ≡ bound (as_bounds xs) s k)
    plan_of s k (w, there) =
        let (after, ((p, on, costs), under)) = v.each s k w there in
        (p, on, costs ∙ sym (listed_cost (limit + 1) xs s k w v.rising there))

    loops : (s k : ℕ) (path : Path) (f : ℕ) → IsListed (as_bounds xs) s k → CanLoop space s path → Folds space (with_table s (table_of path)) k f
        → bound (as_bounds xs) (with_table s (table_of path)) f ≤ saturated (bound (as_bounds xs) s k + loop_cost space s path)
    loops s k path f listed can folds =
        let (p, (r, on, own), costs) = plan_of s k listed in
        let under = low (with_table s (table_of path)) f (Loop p path)
        (loop p path r (rw on can), ap (λ x. with_table x (table_of path)) on, refold space s (table_of path) (order_of space p) k f own folds) in
        let is : cost_of space (Loop p path) ≡ saturated (bound (as_bounds xs) s k + loop_cost space s path) =
        ap (λ x. saturated (cost_of space p + loop_cost space x path)) on ∙ ap (λ x. saturated (x + loop_cost space s path)) costs in
        rw is at under

    merges : (s k g : ℕ) (inner : Inner) (f : ℕ) → IsListed (as_bounds xs) s k → CanMerge space s k g inner → Folds space (with_table s (table_of inner.path)) k f
        → bound (as_bounds xs) (with_table s (table_of inner.path)) f ≤ saturated (bound (as_bounds xs) s k + merge_cost space s g inner)
    merges s k g inner f listed can folds =
        let (p, (r, on, own), costs) = plan_of s k listed in
        let same = merge_order space complete s (order_of space p) k g inner own can in
        let under = low (with_table s (table_of inner.path)) f (Merge p g inner)
        (merge p g inner r (rw (on, ← same) can), ap (λ x. with_table x (table_of inner.path)) on, refold space s (table_of inner.path) (order_of space p) k f own folds) in
        let is : cost_of space (Merge p g inner) ≡ saturated (bound (as_bounds xs) s k + merge_cost space s g inner) =
        ap (λ x. saturated (cost_of space p + merge_cost space x g inner)) on ∙ ap (λ x. saturated (x + merge_cost space s g inner)) costs in
        rw is at under

    sorts : (s k into f : ℕ) → IsListed (as_bounds xs) s k → CanSort space s into → Folds space s into f
        → bound (as_bounds xs) s f ≤ saturated (bound (as_bounds xs) s k + space.sort_cost s)
    sorts s k into f listed can folds =
        let (p, (r, on, own), costs) = plan_of s k listed in
        let under = low s f (Sort p into) (sort p into r (rw on can), on, folds) in
        let is : cost_of space (Sort p into) ≡ saturated (bound (as_bounds xs) s k + space.sort_cost s) =
        ap (λ x. saturated (cost_of space p + space.sort_cost x)) on ∙ ap (λ x. saturated (x + space.sort_cost s)) costs in
        rw is at under

    state_at : (i : ℕ) (d : StateCost) → i < length xs → (p : Plan) × IsOn space (get_or xs i d).tables (get_or xs i d).order p
    state_at i d lt =
        let y = get_or xs i d in
        let (after, ((p, on, costs), under)) = v.each y.tables y.order y.cost (Contains-get_or xs i d lt) in
        (p, on)

    solved : IsSolved space xs
    solved = record {
      form = record {
        tables = λ i d lt. let (p, on) = state_at i d lt in (state_some _ _ p on, state_within _ _ p on);
        orders = λ i d lt. let (p, on) = state_at i d lt in state_numbered _ _ p on;
        rising = v.rising;
      };
      attained = λ s k w there. let (after, (by, under)) = v.each s k w there in by;
      comparisons = together space (as_bounds xs) (λ path f below is_path folds. low (only (table_of path)) f (Access path) (access path below is_path, refl, folds)) loops merges sorts;
    }

    cheapest : (p : Plan) → IsLeast space p → IsCheapest space xs p
    cheapest p (inside, gives, least) = (
      inside,
      gives,
      λ k w there serves.
          let (after, ((q, on, costs), under)) = v.each (whole space) k w there in
          let (inside', gives') = kept_ordered space k q complete on serves in
          let le = least q inside' gives' in
          omega (arith, le, costs),
    )

    certified : (p : Plan) → IsLeast space p → (c : Certificate) × IsCertified space p c
    certified p least =
        let (valid, exact) = searched_whole space xs p complete solved (cheapest p least) in
        (certificate_below (cost_of space p) xs, (valid, exact, least))

  -- ---- together

  abbrev Costs : ℕ → Type 0
  Costs w = (p : Plan) × InSpace space p × GivesRequired space p × (cost_of space p ≡ w)

  shorter_is_least : (p : Plan) → IsLeast space p → IsLeast space (shorter p)
  shorter_is_least p ((is_plan, all), gives, least) =
      let s = short space complete p is_plan in
      let less = s.cost in
      ((s.is_plan, s.tables ∙ all), rw s.order gives, λ q i g. let le = least q i g in omega (arith, less, le))

  pub none_without_short_least : ((p : Plan) (c : Certificate) → IsCertified space p c → word_count p ≤ 2 * space.table_count → ⊥) → ⊥
  none_without_short_least none = each_set (suc (whole space)) [] begins of_solved
    where
      of_least : (xs : List StateCost) → AreSolved 0 0 xs → (w : ℕ) → Costs w → ((m : ℕ) → Costs m → w ≤ m) → ⊥
      of_least xs v w (p, (is_plan, all), gives, e) lowest =
          let least : IsLeast space p = ((is_plan, all), gives, λ q i g. rw e (lowest (cost_of space q) (q, i, g, refl))) in
          let (c, is) = certified xs v (shorter p) (shorter_is_least p least) in
          none (shorter p) c is (few_words space complete p is_plan)

      of_solved : (xs : List StateCost) → AreSolved 0 0 xs → ⊥
      of_solved xs v =
          let (known, inside, gives) = has_plan space complete in
          none_below Costs (of_least xs v) (suc (cost_of space known)) (cost_of space known) (omega arith) (known, inside, gives, refl)

  pub none_without_least : ((p : Plan) (c : Certificate) → IsCertified space p c → ⊥) → ⊥
  none_without_least none = none_without_short_least (λ p c is words. none p c is)
