-- Joins on top of a state's plan.
use Rattle.std.proofs.Common.{◌≡◌, ◌∙◌, ℕ, ◌+◌, ◌<◌, ◌≤◌, ◌⊎◌, inl, inr, List, length, get_or, map, arith, sym, ap, subst}
use Rattle.std.proofs.lemmas.Bool.{cases_lt}
use Rattle.definitions.specs.Plans.TableSet.{with_table}
use Rattle.definitions.specs.Plans.Space.{Space}
use Rattle.definitions.specs.Plans.Folding.{Folds}
use Rattle.definitions.specs.Plans.Cost.{saturated}
use Rattle.definitions.proofs.PlanTheory.Orders.{folds_once}
use Rattle.join_dp.specs.JoinLists.{added_at, AreJoins, Covers}
use Rattle.join_dp.specs.Joining.{GoesWith, IsAdded, join_cost}
use Rattle.join_dp.specs.Searched.{LowByAdded, LowByJoins}
use Rattle.join_dp.specs.Searching.{Search, cost_at, IsOpen, IsOffer, AreMore}
use Rattle.join_dp.specs.StatePlans.{StatePlan, at}
use Rattle.join_dp.specs.Steps.{Join, JoinOn, table_in}
use Rattle.std.proofs.lemmas.List.{get_or-map}
use Rattle.join_dp.specs.Views.{Added, added_of}
use Rattle.join_dp.specs.declared.step.AddedJoin.{AddedJoin}
use Rattle.join_dp.proofs.Leading.{CostAt}
use Rattle.join_dp.proofs.Offering.{more_same, more_more}
use Rattle.join_dp.proofs.Steps.{can_join, follows, still_inside}

module _ (space : Space) (s : Search) (place : ℕ) (lt : place < length s.states) (v : IsOpen space (at s.states place).found.cost s) where
  pub join_offer : (table : ℕ) (join : Join) (added f cost : ℕ) → IsAdded space (at s.states place).tables table join added → GoesWith space (at s.states place).tables (at s.states place).order table join
      → Folds space (with_table (at s.states place).tables table) (at s.states place).order f → f ≤ (at s.states place).order → cost ≡ saturated ((at s.states place).found.cost + added)
      → IsOffer space (at s.states place).found.cost s (with_table (at s.states place).tables table) f (record { step = JoinOn place join; cost = cost })
  join_offer table join added f cost add goes folds le is =
      let x = at s.states place in
      let m = v.made place lt in
      let can = can_join space x.tables x.order table join add.follows add.is_join goes in
      let small = m.small in
      let numbered = m.numbered in
      record {
        is_open = v;
        made = record {
          small = omega (arith, is);
          made = (lt, can.0, ap (λ t. with_table x.tables t) (sym can.1), folds, is ∙ ap (λ d. saturated (x.found.cost + d)) add.cost);
        };
        inside = still_inside space.table_count x.tables table (v.inside place lt) add.follows.0;
        numbered = omega (arith, numbered, le);
        high = omega (arith, is, small);
      }

pub added_low : (space : Space) (state : StatePlan) (added : Added) (costs : CostAt) (f cost : ℕ) → Folds space (with_table state.tables added.table) state.order f → cost ≡ saturated (state.found.cost + added.cost)
    → costs (with_table state.tables added.table) f ≤ cost → LowByAdded space costs state added
added_low space state added costs f cost folds is low folded goes folds' =
    let once : f ≡ folded = folds_once space (with_table state.tables added.table) state.order f folded folds folds' in
    rw (← once, ← is) low

-- ---- join after join

pub record Joined (space : Space) (joins : List Added) (state : StatePlan) (start : ℕ) (old s : Search) (number : ℕ) : Type 0 where
  pub is_open : IsOpen space state.found.cost s
  pub more : AreMore old s
  pub low : (p : ℕ) → start ≤ p → p < number → LowByAdded space (cost_at s) state (added_at joins p)

pub joins_begin : (space : Space) (joins : List Added) (state : StatePlan) (start : ℕ) (s : Search) → IsOpen space state.found.cost s → Joined space joins state start s s start
joins_begin space joins state start s v = record { is_open = v; more = more_same s; low = λ p ge lt. absurd (omega (arith, ge, lt)) }

pub joins_go : (space : Space) (joins : List Added) (state : StatePlan) (start : ℕ) (old s new : Search) (number : ℕ) (added : Added) → added ≡ added_at joins number → Joined space joins state start old s number → IsOpen space state.found.cost new → AreMore s new
    → LowByAdded space (cost_at new) state added → Joined space joins state start old new (number + 1)
joins_go space joins state start old s new number added is so_far v more low = record {
  is_open = v;
  more = more_more old s new so_far.more more;
  low = λ p ge lt. of_cases p ge lt (cases_lt p number);
}
  where
    of_cases : (p : ℕ) → start ≤ p → p < number + 1 → (p < number) ⊎ (number ≤ p) → LowByAdded space (cost_at new) state (added_at joins p)
    of_cases p ge lt (inl less) = λ folded goes folds.
        let l = more.lower (with_table state.tables (added_at joins p).table) folded in
        let h = so_far.low p ge less folded goes folds in
        omega (arith, l, h)
    of_cases p ge lt (inr ge') = let e : number ≡ p = omega (arith, lt, ge') in subst (λ (a : Added). LowByAdded space (cost_at new) state a) (is ∙ ap (added_at joins) e) low

sum_more : (low from a b : ℕ) → low ≤ saturated (from + a) → a ≤ b → low ≤ saturated (from + b)
sum_more low from a b le more = omega (arith, le, more)

pub joins_end : (space : Space) (joins : List Added) (state : StatePlan) (start end : ℕ) (costs : CostAt) → AreJoins space joins state.tables start end space.table_count
    → ((p : ℕ) → start ≤ p → p < end → LowByAdded space costs state (added_at joins p)) → LowByJoins space costs state.tables state.order state.found.cost
joins_end space joins state start end costs are low join folded can folds = of_cover (are.all state.order join (follows space state.tables state.order join can).0 can)
  where
    of_cover : Covers space joins state.tables start end state.order join → costs (with_table state.tables (table_in join)) folded ≤ saturated (state.found.cost + join_cost space state.tables join)
    of_cover (p, ge, lt, table, goes, le) =
        let l = low p ge lt folded goes (rw table folds) in
        let l' : costs (with_table state.tables (table_in join)) folded ≤ saturated (state.found.cost + (added_at joins p).cost) = rw table at l in
        sum_more _ state.found.cost (added_at joins p).cost (join_cost space state.tables join) l' le

pub sum_is : (n x y a b : ℕ) → n ≡ saturated (x + y) → x ≡ a → y ≡ b → n ≡ saturated (a + b)
sum_is n x y a b is e f = rw (← e, ← f) is

-- ---- as the code reads and writes

pub read_added : (items : List AddedJoin) (number : ℕ) (r : AddedJoin) → r ≡ get_or items number r → number < length items → added_of r ≡ added_at (map added_of items) number
read_added items number r is lt = ap added_of is ∙ sym (get_or-map added_of items number r _ lt)
