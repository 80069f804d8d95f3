-- The orders that rows of a set of tables can be sorted into, one after another.
use Prim.Native.Nat.{zero}
use Rattle.std.proofs.Common.{suc, ◌≡◌, ◌∙◌, refl, sym, ap, subst, ℕ, ◌+◌, ◌<◌, ◌≤◌, ◌^◌, ◌⊎◌, inl, inr, List, [], ◌∷◌, Bool, true, false, cond, Option, Some, None, length, map, get_or, arith}
use Rattle.std.specs.Prelude.{Contains, slice_index}
use Rattle.std.specs.List.{AllByRecursion}
use Rattle.std.specs.List.Sorted.{IsStrictlyIncreasing}
use Rattle.std.proofs.lemmas.Bool.{cases_lt}
use Rattle.std.proofs.lemmas.List.{length-map, get_or-map}
use Rattle.std.proofs.lemmas.List.Elements.{All-from_recursion, recursion_from_All}
use Rattle.definitions.specs.Limits.{most_from_tables}
use Rattle.definitions.specs.Plans.TableSet.{TableSet, Has, no_tables}
use Rattle.definitions.specs.Plans.Order.{SortKey}
use Rattle.definitions.specs.Plans.Space.{Space, order_at, IsOver}
use Rattle.definitions.specs.Plans.PlanSpace.{CanSort}
use Rattle.definitions.proofs.PlanTheory.Elements.{first_is, later}
use Rattle.interesting_orders.specs.Reach.{key_tables, is_reached}
use Rattle.interesting_orders.specs.Sorts.{open_orders, tables_of_use, AreSorts}
use Rattle.interesting_orders.specs.Uses.{AreUses}
use Rattle.interesting_orders.specs.declared.order_use.OrderUse.{OrderUse}
use Rattle.interesting_orders.specs.declared.interesting_orders.InterestingOrders.{InterestingOrders}
use Rattle.interesting_orders.proofs.Numbered.{numbered}
use Rattle.interesting_orders.proofs.Reaching.{keys_there, there_keys, none_needed}

-- ---- numbers that rise

rising-cons : (x : ℕ) (xs : List ℕ) → AllByRecursion (λ y. x < y) xs → IsStrictlyIncreasing xs → IsStrictlyIncreasing (x ∷ xs)
rising-cons x [] above rising k lt = absurd (omega (arith, lt))
rising-cons x (y ∷ ys) above rising zero lt = above.0
rising-cons x (y ∷ ys) above rising (suc k) lt =
    let e : suc (k + 1) ≡ suc k + 1 = omega arith in
    subst (λ n. slice_index (x ∷ y ∷ ys) (suc k) < slice_index (x ∷ y ∷ ys) n) e (rising k (omega (arith, lt)))

module _ (set : TableSet) where
  from_on : (xs : List (Option TableSet)) (number least : ℕ) → least < number → AllByRecursion (λ y. least < y) (open_orders set number xs)
  from_on [] number least lt = tt
  from_on (x ∷ xs) number least lt = by_test (is_reached x set) (from_on xs (number + 1) least (omega (arith, lt)))
    where
      by_test : (b : Bool) → AllByRecursion (λ y. least < y) (open_orders set (number + 1) xs) → AllByRecursion (λ y. least < y) (cond b (number ∷ open_orders set (number + 1) xs) (open_orders set (number + 1) xs))
      by_test true rest = (lt, rest)
      by_test false rest = rest

  rising : (xs : List (Option TableSet)) (number : ℕ) → IsStrictlyIncreasing (open_orders set number xs)
  rising [] number = λ k lt. absurd (omega (arith, lt))
  rising (x ∷ xs) number = by_test (is_reached x set) (rising xs (number + 1))
    where
      by_test : (b : Bool) → IsStrictlyIncreasing (open_orders set (number + 1) xs) → IsStrictlyIncreasing (cond b (number ∷ open_orders set (number + 1) xs) (open_orders set (number + 1) xs))
      by_test true rest = rising-cons number (open_orders set (number + 1) xs) (from_on xs (number + 1) number (omega arith)) rest
      by_test false rest = rest

module _ (space : Space) (set : TableSet) (few : set < 2 ^ most_from_tables) where
  abbrev IsTold : ℕ → Option TableSet → Type 0
  IsTold number tables = tables ≡ key_tables (Some no_tables) (order_at space number)

  over : (number : ℕ) (tables : Option TableSet) → IsTold number tables → number < length space.orders → is_reached tables set ≡ true → IsOver space set number
  over number tables told within holds = (
    within,
    All-from_recursion (λ (key : SortKey). Has set key.column.table) (order_at space number)
        (keys_there set few (order_at space number) (Some no_tables) (rw told at holds)).1,
  )

  reached_over : (number : ℕ) (tables : Option TableSet) → IsTold number tables → IsOver space set number → is_reached tables set ≡ true
  reached_over number tables told is_over =
      rw told (there_keys set few (order_at space number) (Some no_tables) (none_needed set few)
      (recursion_from_All (λ (key : SortKey). Has set key.column.table) (order_at space number) is_over.1))

  -- the sets stand for the orders from a number on
  abbrev pub AreTold : ℕ → List (Option TableSet) → Type 0
  AreTold number xs = (place : ℕ) → place < length xs → IsTold (number + place) (get_or xs place None)

  told_first : (x : Option TableSet) (xs : List (Option TableSet)) (number : ℕ) → AreTold number (x ∷ xs) → IsTold number x
  told_first x xs number told = subst (λ n. IsTold n x) (omega arith) (told 0 (omega arith))

  told_later : (x : Option TableSet) (xs : List (Option TableSet)) (number : ℕ) → AreTold number (x ∷ xs) → AreTold (number + 1) xs
  told_later x xs number told place lt =
      let e : number + suc place ≡ number + 1 + place = omega arith in
      subst (λ n. IsTold n (get_or xs place None)) e (told (suc place) (omega (arith, lt)))

  each : (xs : List (Option TableSet)) (number : ℕ) → 0 < number → AreTold number xs → number + length xs ≤ length space.orders → AllByRecursion (CanSort space set) (open_orders set number xs)
  each [] number some told within = tt
  each (x ∷ xs) number some told within =
      by_test (is_reached x set) refl (each xs (number + 1) (omega arith) (told_later x xs number told) (omega (arith, within)))
    where
      by_test : (b : Bool) → is_reached x set ≡ b → AllByRecursion (CanSort space set) (open_orders set (number + 1) xs)
          → AllByRecursion (CanSort space set) (cond b (number ∷ open_orders set (number + 1) xs) (open_orders set (number + 1) xs))
      by_test true holds rest = (((λ e. absurd (omega (arith, some, e))), over number x (told_first x xs number told) (omega (arith, within)) holds), rest)
      by_test false holds rest = rest

  all : (xs : List (Option TableSet)) (number order : ℕ) → AreTold number xs → number ≤ order → order < number + length xs → IsOver space set order → Contains (open_orders set number xs) order
  all [] number order told le lt is_over = absurd (omega (arith, le, lt))
  all (x ∷ xs) number order told le lt is_over =
      by_place (λ less. all xs (number + 1) order (told_later x xs number told) (omega (arith, less)) (omega (arith, lt)) is_over) (cases_lt number order)
    where
      here : (b : Bool) → b ≡ true → number ≡ order → Contains (cond b (number ∷ open_orders set (number + 1) xs) (open_orders set (number + 1) xs)) order
      here true holds e = first_is number (open_orders set (number + 1) xs) order e
      here false holds e = absurd cc

      behind : (b : Bool) → Contains (open_orders set (number + 1) xs) order → Contains (cond b (number ∷ open_orders set (number + 1) xs) (open_orders set (number + 1) xs)) order
      behind true there = later number (open_orders set (number + 1) xs) order there
      behind false there = there

      by_place : (number < order → Contains (open_orders set (number + 1) xs) order) → (number < order) ⊎ (order ≤ number) → Contains (open_orders set number (x ∷ xs)) order
      by_place rest (inl less) = behind (is_reached x set) (rest less)
      by_place rest (inr ge) =
          let e : number ≡ order = omega (arith, le, ge) in
          here (is_reached x set) (reached_over number x (told_first x xs number told) (subst (IsOver space set) (sym e) is_over)) e

  pub are_sorts : (xs : List (Option TableSet)) → AreTold 1 xs → 1 + length xs ≡ length space.orders → AreSorts space set (open_orders set 1 xs)
  are_sorts xs told count = record {
    each = each xs 1 (omega arith) told (omega (arith, count));
    all = λ order can. all xs 1 order told (omega (arith, can.0)) (omega (arith, can.1.0, count)) can.1;
    rising = rising set xs 1;
  }

-- those behind the first order, which is the empty one
pub sorts_of : (space : Space) (u : InterestingOrders) → AreUses space u → (set : TableSet) → set < 2 ^ most_from_tables → (first : OrderUse) (rest : List OrderUse) → u.orders.items ≡ first ∷ rest
    → (number : ℕ) → number ≡ 1 → AreSorts space set (open_orders set number (map tables_of_use rest))
sorts_of space u are set few first rest is number one = rw one (are_sorts space set few (map tables_of_use rest) told (omega (arith, count, length-map rest tables_of_use)))
  where
    count : 1 + length rest ≡ length space.orders
    count = omega (arith, are.orders.len, ap (λ (all : List OrderUse). length all) is)

    told : AreTold space set few 1 (map tables_of_use rest)
    told place lt =
        let within : place < length rest = omega (arith, lt, length-map rest tables_of_use) in
        let here : 1 + place < length u.orders.items = omega (arith, within, ap (λ (all : List OrderUse). length all) is) in
        let next : 1 + place ≡ suc place = omega arith in
        let same : get_or u.orders.items (1 + place) first ≡ get_or rest place first = ap (λ (all : List OrderUse). get_or all (1 + place) first) is ∙ ap (λ n. get_or (first ∷ rest) n first) next in
        get_or-map tables_of_use rest place first None within ∙ ap tables_of_use (sym same) ∙ (numbered space u (1 + place) first are here).tables
