-- Steps that are taken one after another.
use Rattle.std.proofs.Common.{◌≡◌, ℕ, ◌+◌, ◌^◌, ◌<◌, ◌≤◌, List, [], ◌∷◌, length, arith, refl, sym, ap, subst}
use Rattle.std.specs.List.{AllByRecursion}
use Rattle.std.proofs.Math.Pow.{pow-lt}
use Rattle.definitions.specs.Plans.TableSet.{only}
use Rattle.definitions.specs.Plans.Path.{Path}
use Rattle.definitions.specs.Plans.Space.{Space}
use Rattle.definitions.specs.Plans.PlanSpace.{CanSort}
use Rattle.definitions.specs.Plans.Folding.{Folds}
use Rattle.definitions.specs.Plans.Cost.{limit, saturated}
use Rattle.definitions.proofs.PlanTheory.Orders.{folds_once}
use Rattle.plan_space.specs.InterestingOrders.Sorts.{AreSorts}
use Rattle.plan_space.specs.Item.{Item, AreItems}
use Rattle.plan_space.proofs.Lists.{has_each, head_has, both}
use Rattle.plan_space.proofs.PathItems.{IsPathItem, each_path, found_item}
use Rattle.join_dp.specs.Searched.{LowByAccesses, LowBySorts, cost_sorted, cost_sorted_by, sorted_from, sorted_from_by}
use Rattle.join_dp.specs.Searching.{Search, cost_at, IsOpen, IsOffer, AreMore}
use Rattle.join_dp.specs.StatePlans.{StatePlan, at, StepMakes, IsMadeAt}
use Rattle.join_dp.specs.Steps.{Step, AccessOf, JoinOn, SortOn, IsUnsorted}
use Rattle.join_dp.proofs.Offering.{more_same, more_more}

abbrev pub CostAt : Type 0
CostAt = ℕ → ℕ → ℕ

-- no cost is higher
abbrev pub IsBelow : CostAt → CostAt → Type 0
IsBelow new old = (t k : ℕ) → new t k ≤ old t k

-- if the items that are left are seen to, a claim holds of all lower costs
abbrev pub LeadsLow : {X : Type 0} → (X → Type 0) → (CostAt → X → Type 0) → (CostAt → Type 0) → CostAt → List X → Type 0
LeadsLow P Q C cost items = AllByRecursion P items × ((later : CostAt) → IsBelow later cost → AllByRecursion (Q later) items → C later)

pub goes_low : {X : Type 0} (P : X → Type 0) (Q : CostAt → X → Type 0) (C : CostAt → Type 0) (old new : CostAt) (items rest : List X) (x : X) → items ≡ x ∷ rest
    → LeadsLow P Q C old items → IsBelow new old → ((later : CostAt) → IsBelow later new → Q later x) → LeadsLow P Q C new rest
goes_low P Q C old new items rest x is l b q =
    let m = rw is at l in
    (m.0.1, λ later lb all. m.1 later (λ t k. let a = lb t k in let a' = b t k in omega (arith, a, a')) (q later lb, all))

pub ends_low : {X : Type 0} (P : X → Type 0) (Q : CostAt → X → Type 0) (C : CostAt → Type 0) (cost : CostAt) (items : List X) → items ≡ [] → LeadsLow P Q C cost items → C cost
ends_low P Q C cost items is l = let m = rw is at l in m.1 cost (λ t k. omega arith) tt

-- ---- accesses

module _ (space : Space) (table : ℕ) where
  abbrev pub AccessSeen : CostAt → Item → Type 0
  AccessSeen cost item = (folded : ℕ) → Folds space (only table) item.order folded → cost (only table) folded ≤ item.cost

  abbrev pub AccessesLow : CostAt → Type 0
  AccessesLow cost = LowByAccesses space cost table

  pub record Accessed (old s : Search) (items : List Item) : Type 0 where
    pub is_open : IsOpen space 0 s
    pub more : AreMore old s
    pub leads : LeadsLow (IsPathItem space 0 table) AccessSeen AccessesLow (cost_at s) items

  pub accesses_begin : (s : Search) (items : List Item) → IsOpen space 0 s → AreItems space 0 table items → Accessed s s items
  accesses_begin s items v are = record {
    is_open = v;
    more = more_same s;
    leads = (each, λ later below all path folded at there folds. of_item later path folded folds (found_item space 0 table items (λ (item : Item). IsPathItem space 0 table item × AccessSeen later item) are (both (IsPathItem space 0 table) (AccessSeen later) items each all) path at there));
  }
    where
      each : AllByRecursion (IsPathItem space 0 table) items
      each = each_path space 0 table items are

      of_item : (later : CostAt) (path : Path) (folded : ℕ) → Folds space (only table) (space.path_order path) folded → (item : Item) × (IsPathItem space 0 table item × AccessSeen later item) × (item.path ≡ path) → later (only table) folded ≤ space.path_cost 0 path
      of_item later path folded folds (item, (right, seen), is) =
          let o : item.order ≡ space.path_order path = rw is at right.0.order in
          let c : item.cost ≡ space.path_cost 0 path = rw is at right.0.cost in
          rw c at (seen folded (rw o folds))

  module _ (old s : Search) (items rest : List Item) (item : Item) (f : ℕ) (lt : table < space.table_count) (is : items ≡ item ∷ rest) (le : f ≤ item.order) (folds : Folds space (only table) item.order f) (a : Accessed old s items) where
    right : IsPathItem space 0 table item
    right = head_has (IsPathItem space 0 table) items rest item is a.leads.0

    pub access_numbered : f < length space.orders
    access_numbered = let n = right.0.numbered in omega (arith, n, le)

    pub access_offer : item.cost ≤ limit → IsOffer space 0 s (only table) f (record { step = AccessOf item.path; cost = item.cost })
    access_offer small = record {
      is_open = a.is_open;
      made = record { small = small; made = (rw right.0.reads lt, right.1, ap only (sym right.0.reads), rw right.0.order at folds, right.0.cost) };
      inside = pow-lt lt;
      numbered = access_numbered;
      high = omega arith;
    }

    pub accesses_go : (new : Search) → IsOpen space 0 new → AreMore s new → cost_at new (only table) f ≤ item.cost → Accessed old new rest
    accesses_go new v more here = record {
      is_open = v;
      more = more_more old s new a.more more;
      leads = goes_low (IsPathItem space 0 table) AccessSeen AccessesLow (cost_at s) (cost_at new) items rest item is a.leads more.lower
          (λ later below folded folds'. let once : f ≡ folded = folds_once space (only table) item.order f folded folds folds' in let l = below (only table) f in rw (← once) (omega (arith, l, here)));
    }

-- ---- sorts

-- what a sort of a state's plan goes on from: a plan that no sort ends
pub record SortBase (space : Space) (states : List StatePlan) (tables cost from : ℕ) : Type 0 where
  pub within : from < length states
  pub unsorted : IsUnsorted (at states from).found.step
  pub same : tables ≡ (at states from).tables
  pub is : cost ≡ saturated ((at states from).found.cost + space.sort_cost tables)

-- the plan itself, or what it sorts
pub sort_base : (space : Space) (states : List StatePlan) (place : ℕ) → place < length states → IsMadeAt space states place
    → SortBase space states (at states place).tables (cost_sorted space (at states place)) (sorted_from place (at states place))
sort_base space states place lt m = of_step (at states place).found.step refl m.made
  where
    itself : IsUnsorted (at states place).found.step → SortBase space states (at states place).tables (saturated ((at states place).found.cost + space.sort_cost (at states place).tables)) place
    itself unsorted = record { within = lt; unsorted = unsorted; same = refl; is = refl }

    of_step : (step : Step) → (at states place).found.step ≡ step → StepMakes space states place (at states place).tables (at states place).order (at states place).found.cost step
        → SortBase space states (at states place).tables (cost_sorted_by space step (at states place).tables (at states place).found.cost) (sorted_from_by place step)
    of_step (AccessOf path) e made = itself (subst IsUnsorted (sym e) tt)
    of_step (JoinOn from join) e made = itself (subst IsUnsorted (sym e) tt)
    of_step (SortOn from into) e made = let less = made.0 in record { within = omega (arith, less, lt); unsorted = made.1; same = made.2; is = made.5 }

sorted_bounds : (space : Space) (step : Step) (tables cost : ℕ) → cost ≤ limit → (cost ≤ cost_sorted_by space step tables cost) × (cost_sorted_by space step tables cost ≤ saturated (cost + space.sort_cost tables))
sorted_bounds space (AccessOf path) tables cost small = (omega (arith, small), omega arith)
sorted_bounds space (JoinOn from join) tables cost small = (omega (arith, small), omega arith)
sorted_bounds space (SortOn from into) tables cost small = (omega arith, omega (arith, small))

module _ (space : Space) (tables cost : ℕ) where
  abbrev pub SortSeen : CostAt → ℕ → Type 0
  SortSeen costs into = (folded : ℕ) → Folds space tables into folded → costs tables folded ≤ cost

  abbrev pub SortsLow : CostAt → Type 0
  SortsLow costs = (into folded : ℕ) → CanSort space tables into → Folds space tables into folded → costs tables folded ≤ cost

  pub record Sorted (level from : ℕ) (old s : Search) (orders : List ℕ) : Type 0 where
    pub is_open : IsOpen space level s
    pub more : AreMore old s
    pub inside : tables < 2 ^ space.table_count
    pub high : level ≤ cost
    pub base : SortBase space old.states tables cost from
    pub leads : LeadsLow (CanSort space tables) SortSeen SortsLow (cost_at s) orders

  pub sorts_begin : (level from : ℕ) (s : Search) (orders : List ℕ) → IsOpen space level s → tables < 2 ^ space.table_count → level ≤ cost → SortBase space s.states tables cost from → AreSorts space tables orders → Sorted level from s s orders
  sorts_begin level from s orders v inside high base are = record {
    is_open = v;
    more = more_same s;
    inside = inside;
    high = high;
    base = base;
    leads = (are.each, λ later below all into folded can folds. has_each (SortSeen later) orders into all (are.all into can) folded folds);
  }

  module _ (level from : ℕ) (old s : Search) (orders rest : List ℕ) (into f : ℕ) (is : orders ≡ into ∷ rest) (le : f ≤ into) (folds : Folds space tables into f) (a : Sorted level from old s orders) where
    can : CanSort space tables into
    can = head_has (CanSort space tables) orders rest into is a.leads.0

    pub sort_numbered : f < length space.orders
    sort_numbered = let n = can.1.0 in omega (arith, n, le)

    pub sort_offer : IsOffer space level s tables f (record { step = SortOn from into; cost = cost })
    sort_offer =
        let b = a.base in
        let within = b.within in
        let is' = b.is in
        let longer = a.more.longer in
        let kept : at s.states from ≡ at old.states from = a.more.kept from within in
        record {
          is_open = a.is_open;
          made = record {
            small = omega (arith, is');
            made = (omega (arith, within, longer), rw kept b.unsorted, rw kept b.same, can, folds, rw kept is');
          };
          inside = a.inside;
          numbered = sort_numbered;
          high = a.high;
        }

    pub sorts_go : (new : Search) → IsOpen space level new → AreMore s new → cost_at new tables f ≤ cost → Sorted level from old new rest
    sorts_go new v more here = record {
      is_open = v;
      more = more_more old s new a.more more;
      inside = a.inside;
      high = a.high;
      base = a.base;
      leads = goes_low (CanSort space tables) SortSeen SortsLow (cost_at s) (cost_at new) orders rest into is a.leads more.lower
          (λ later below folded folds'. let once : f ≡ folded = folds_once space tables into f folded folds folds' in let l = below tables f in rw (← once) (omega (arith, l, here)));
    }

-- what the sorts of a state begin with
pub state_sorts : (space : Space) (s : Search) (place cost : ℕ) (orders : List ℕ) → place < length s.states → IsOpen space (at s.states place).found.cost s → cost ≡ cost_sorted space (at s.states place) → AreSorts space (at s.states place).tables orders
    → Sorted space (at s.states place).tables cost (at s.states place).found.cost (sorted_from place (at s.states place)) s s orders
state_sorts space s place cost orders lt v is are =
    let x = at s.states place in
    let m = v.made place lt in
    let bounds = sorted_bounds space x.found.step x.tables x.found.cost m.small in
    let low = bounds.0 in
    let base = sort_base space s.states place lt m in
    sorts_begin space x.tables cost x.found.cost (sorted_from place x) s orders v (v.inside place lt) (omega (arith, low, is)) (subst (λ n. SortBase space s.states x.tables n (sorted_from place x)) (sym is) base) are

pub sorts_end : (space : Space) (s : Search) (place cost : ℕ) (costs : CostAt) → place < length s.states → IsOpen space (at s.states place).found.cost s → cost ≡ cost_sorted space (at s.states place) → SortsLow space (at s.states place).tables cost costs
    → LowBySorts space costs (at s.states place).tables (at s.states place).found.cost
sorts_end space s place cost costs lt v is low into folded can folds =
    let x = at s.states place in
    let m = v.made place lt in
    let bounds = sorted_bounds space x.found.step x.tables x.found.cost m.small in
    let high = bounds.1 in
    let l = low into folded can folds in
    omega (arith, l, is, high)
