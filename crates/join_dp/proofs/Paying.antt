-- How a search ends, and what it takes.
use Rattle.std.proofs.Common.{zero, suc, ◌≡◌, ◌≢◌, ◌∙◌, ℕ, ◌+◌, ◌-◌, ◌*◌, ◌%◌, ◌^◌, ◌<◌, ◌≤◌, ◌⊎◌, inl, inr, Bool, true, false, if◌then◌else◌, length, arith, sym}
use Rattle.std.proofs.Math.Pow.{pow-lt}
use Rattle.definitions.specs.Plans.Space.{Space, whole}
use Rattle.join_dp.specs.Costs.{Costs, settled_of, settled_among, settled_count}
use Rattle.join_dp.specs.Counting.{most_joins, most_steps}
use Rattle.join_dp.specs.Searching.{Search, IsOpen, AreMore, IsNext}
use Rattle.join_dp.specs.StatePlans.{at}
use Rattle.join_dp.proofs.Ending.{state_some}
use Rattle.join_dp.proofs.NextSettled.{one_of, one_among}
use Rattle.join_dp.proofs.Offering.{same_or_other}
use Rattle.join_dp.proofs.Spending.{spent_in, settled_pays, spent_few}

-- ---- it ends

few_of : (f : ℕ → Bool) (m : ℕ) → settled_of f m ≤ m
few_of f zero = omega arith
few_of f (suc m) = omega (arith, few_of f m, of_flag (f m))
  where
    of_flag : (b : Bool) → (if b then 1 else 0) ≤ 1
    of_flag true = omega arith
    of_flag false = omega arith

few_among : (f : ℕ → ℕ → Bool) (m n : ℕ) → settled_among f m n ≤ n * m
few_among f m zero = omega arith
few_among f m (suc n) =
    let a = few_among f m n in
    let b = few_of (f n) m in
    let e : suc n * m ≡ n * m + m = grind arith in
    omega (arith, a, b, e)

-- how many states are left to be settled
abbrev pub left : Costs → ℕ
left costs = costs.sets * costs.orders - settled_count costs

module _ (space : Space) (level place : ℕ) (old mid new : Search) (n : IsNext space level place old mid) (more : AreMore mid new) (v : IsOpen space level old) (w : IsOpen space (at mid.states place).found.cost new) where
  abbrev tables : ℕ
  tables = (at mid.states place).tables

  abbrev order : ℕ
  order = (at mid.states place).order

  inside : tables < 2 ^ space.table_count
  inside = n.is_open.inside place n.within

  numbered : order < length space.orders
  numbered = (n.is_open.made place n.within).numbered

  others : (t k : ℕ) → (t ≢ tables) ⊎ (k ≢ order) → new.costs.settled t k ≡ old.costs.settled t k
  others t k ne = more.settled t k ∙ n.settled.others t k ne

  here : new.costs.settled tables order ≡ true
  here = more.settled tables order ∙ n.settled.here

  pub fewer_left : left new.costs < left old.costs
  fewer_left =
      let e = w.sets ∙ sym v.sets in
      let f = w.orders ∙ sym v.orders in
      let one : settled_among new.costs.settled old.costs.orders old.costs.sets ≡ settled_among old.costs.settled old.costs.orders old.costs.sets + 1 =
      one_among old.costs.settled new.costs.settled tables order old.costs.orders old.costs.sets (let s = v.sets in let i = inside in omega (arith, s, i)) (let s = v.orders in let i = numbered in omega (arith, s, i)) n.was_not here others in
      let few = few_among new.costs.settled old.costs.orders old.costs.sets in
      rw (e, f) (omega (arith, one, few))

  -- ---- and pays for its steps
  pub still_paid : (sorts : ℕ → ℕ) (joins : ℕ → ℕ → ℕ) (listed listed' : ℕ → ℕ) → ((t : ℕ) → listed t ≤ listed' t) → old.steps ≤ spent_in space sorts joins old.costs.settled listed
      → new.steps + listed (at mid.states place).tables * sorts (at mid.states place).tables ≤ mid.steps + most_joins space sorts joins (at mid.states place).tables space.table_count + listed' (at mid.states place).tables * sorts (at mid.states place).tables
      → new.steps ≤ spent_in space sorts joins new.costs.settled listed'
  still_paid sorts joins listed listed' listed_more before step =
      settled_pays space sorts joins old.costs.settled new.costs.settled listed listed' tables old.steps new.steps some inside rises (omega (arith, one)) listed_more before (let e = n.steps in omega (arith, step, e))
    where
      some : 0 < tables
      some = state_some space mid.states n.is_open.made place n.within

      one : settled_of (new.costs.settled tables) (length space.orders) ≡ settled_of (old.costs.settled tables) (length space.orders) + 1
      one = one_of (old.costs.settled tables) (new.costs.settled tables) order (length space.orders) numbered n.was_not here (λ j ne. others tables j (inr ne))

      rises : (t k : ℕ) → old.costs.settled t k ≡ true → new.costs.settled t k ≡ true
      rises t k is = of_cases (same_or_other t k tables order)
        where
          of_cases : ((t ≡ tables) × (k ≡ order)) ⊎ ((t ≢ tables) ⊎ (k ≢ order)) → new.costs.settled t k ≡ true
          of_cases (inl (e, f)) = rw (e, f) here
          of_cases (inr ne) = others t k ne ∙ is

pub paid : (space : Space) (sorts : ℕ → ℕ) (joins : ℕ → ℕ → ℕ) (settled : ℕ → ℕ → Bool) (listed : ℕ → ℕ) (steps : ℕ) → ((s : ℕ) → listed s ≤ 1) → steps ≤ spent_in space sorts joins settled listed → steps ≤ most_steps space sorts joins
paid space sorts joins settled listed steps one le = let few = spent_few space sorts joins settled listed one (whole space) in omega (arith, le, few)

-- ---- how many sets there are

pub sets_are : (m n : ℕ) → m ≡ n → m ≤ 14 → 1 * 2 ^ m % 18446744073709551616 ≡ 2 ^ n
sets_are m n e few =
    let small : n < 64 = omega (arith, e, few) in
    let lt : 2 ^ n < 2 ^ 64 = pow-lt small in
    rw e (omega (arith, lt))
