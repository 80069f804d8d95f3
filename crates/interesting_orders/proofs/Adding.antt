-- What is added one after another, none twice, is what stands first of all.
use Rattle.std.proofs.Common.{◌≡◌, ◌∙◌, refl, sym, ap, ap₂, ℕ, suc, ◌+◌, ◌-◌, ◌<◌, ◌⊎◌, inl, inr, List, [], ◌∷◌, ◌++◌, Bool, true, false, cond, not, ◌&&◌, nat_eq, Option, Some, length, map, arith}
use Rattle.std.specs.Prelude.{◌||◌, Contains, filter, fold, flat_map, option_map, option_and_then, slice_get, unwrap_or}
use Rattle.std.specs.List.{list_any, range_with_len}
use Rattle.std.proofs.lemmas.Bool.{false≢true}
use Rattle.std.proofs.lemmas.Bool.Decides.{nat_tests}
use Rattle.std.proofs.lemmas.List.Folds.{list_any-append}
use Rattle.std.proofs.lemmas.List.Sums.{fold-append}
use Rattle.std.proofs.Math.Path.{subst}
use Rattle.std.specs.Global.{Vec}
use Rattle.plan_tree.specs.Plans.{order_of, orders_in}
use Rattle.plan_tree.specs.declared.order.SortKey as code
use Rattle.definitions.specs.Table.{Index, Table, Database}
use Rattle.definitions.specs.Plans.Order.{Order}
use Rattle.definitions.specs.Plans.Conjunct.{Conjunct}
use Rattle.definitions.specs.Lists.{without_repeats}
use Rattle.definitions.specs.Plans.Numbering.{same_order, number_of, merge_orders, numbered}
use Rattle.definitions.specs.Queries.BoundBlock.{Block}
use Rattle.definitions.specs.Estimates.BlockTables.{table_at, index_columns}
use Rattle.definitions.specs.Estimates.Version.{Version, directions}
use Rattle.definitions.specs.Estimates.Orders.{known_indexes, table_orders}
use Rattle.definitions.proofs.PlanTheory.Elements.{first_is, later, first_or_rest, not_in_empty}
use Rattle.definitions.proofs.PlanTheory.Numbers.{kept_once, has_its_number}
use Rattle.interesting_orders.specs.Keys.{index_keys}
use Rattle.interesting_orders.specs.Adding.{added, table_keys}
use Rattle.interesting_orders.proofs.OrderPlaces.{next_number}

-- ---- the test of two orders

-- of two orders that pass it the second isn't kept, so it is the first
pub same_is : (x y : Order) → same_order x y ≡ true → x ≡ y
same_is x y e = by_place (first_or_rest x [] y kept)
  where
    alone : without_repeats same_order (x ∷ y ∷ []) ≡ x ∷ []
    alone = rw e refl

    kept : Contains (x ∷ []) y
    kept = subst (λ (xs : List Order). Contains xs y) alone (kept_once (x ∷ y ∷ []) y (later x (y ∷ []) y (first_is y [] y refl)))

    by_place : (x ≡ y) ⊎ Contains [] y → x ≡ y
    by_place (inl is) = is
    by_place (inr r) = absurd (not_in_empty y r)

-- an order alone has the number 0
same_itself : (x : Order) → same_order x x ≡ true
same_itself x = by_test (same_order x x) refl (has_its_number (x ∷ []) x (first_is x [] x refl)).0
  where
    by_test : (b : Bool) → same_order x x ≡ b → cond (not b) (1 + 0) 0 < 1 → same_order x x ≡ true
    by_test true e h = e
    by_test false e h = absurd (omega (arith, h))

turned : (x y : Order) → same_order x y ≡ true → same_order y x ≡ true
turned x y e = subst (λ (z : Order). same_order z x ≡ true) (same_is x y e) (same_itself x)

same_turned : (x y : Order) → same_order x y ≡ same_order y x
same_turned x y = by_test (same_order x y) (same_order y x) refl refl
  where
    by_test : (a b : Bool) → same_order x y ≡ a → same_order y x ≡ b → a ≡ b
    by_test true true e f = refl
    by_test false false e f = refl
    by_test true false e f = absurd (false≢true (sym f ∙ turned x y e))
    by_test false true e f = absurd (false≢true (sym e ∙ turned y x f))

-- ---- an order that is added

one_more : (a b : ℕ) → nat_eq (1 + a) (suc b) ≡ nat_eq a b
one_more a b = grind (arith, nat_tests)

none_yet : (n : ℕ) → nat_eq 0 (suc n) ≡ false
none_yet n = grind (arith, nat_tests)

numbered_or_not : (orders : List Order) (order : Order) → nat_eq (number_of orders order) (length orders) ≡ not (list_any (same_order order) orders)
numbered_or_not [] order = refl
numbered_or_not (x ∷ xs) order = by_test (same_order order x) (numbered_or_not xs order)
  where
    by_test : (b : Bool) → nat_eq (number_of xs order) (length xs) ≡ not (list_any (same_order order) xs)
        → nat_eq (cond (not b) (1 + number_of xs order) 0) (suc (length xs)) ≡ not (b || list_any (same_order order) xs)
    by_test true e = none_yet (length xs)
    by_test false e = one_more (number_of xs order) (length xs) ∙ e

stays : (found : List Order) (x : Order) → list_any (same_order x) found ≡ true → added found x ≡ found
stays found x e = let no : nat_eq (number_of found x) (length found) ≡ false = numbered_or_not found x ∙ ap not e in rw no refl

goes_behind : (found : List Order) (x : Order) → list_any (same_order x) found ≡ false → added found x ≡ found ++ x ∷ []
goes_behind found x e = let yes : nat_eq (number_of found x) (length found) ≡ true = numbered_or_not found x ∙ ap not e in rw yes refl

-- ---- filters

module _ (p q : Order → Bool) where
  implied : ((x : Order) → q x ≡ true → p x ≡ true) → (xs : List Order) → filter q (filter p xs) ≡ filter q xs
  implied i [] = refl
  implied i (x ∷ xs) = by_test (p x) (q x) refl refl (implied i xs)
    where
      by_test : (a b : Bool) → p x ≡ a → q x ≡ b → filter q (filter p xs) ≡ filter q xs → filter q (cond a (x ∷ filter p xs) (filter p xs)) ≡ cond b (x ∷ filter q xs) (filter q xs)
      by_test true true e f rest = rw f (ap (λ ys. x ∷ ys) rest)
      by_test true false e f rest = rw f rest
      by_test false false e f rest = rest
      by_test false true e f rest = absurd (false≢true (sym e ∙ i x f))

  joined : (r : Order → Bool) → ((x : Order) → r x ≡ (p x && q x)) → (xs : List Order) → filter r xs ≡ filter q (filter p xs)
  joined r i [] = refl
  joined r i (x ∷ xs) = by_test (p x) (q x) refl refl (i x) (joined r i xs)
    where
      by_test : (a b : Bool) → p x ≡ a → q x ≡ b → r x ≡ (p x && q x) → filter r xs ≡ filter q (filter p xs) → cond (r x) (x ∷ filter r xs) (filter r xs) ≡ filter q (cond a (x ∷ filter p xs) (filter p xs))
      by_test true true e f g rest = let yes : r x ≡ true = g ∙ ap₂ (λ a b. a && b) e f in rw (yes, f) (ap (λ ys. x ∷ ys) rest)
      by_test true false e f g rest = let no : r x ≡ false = g ∙ ap₂ (λ a b. a && b) e f in rw (no, f) rest
      by_test false b e f g rest = let no : r x ≡ false = g ∙ ap₂ (λ a b. a && b) e f in rw no rest

-- ---- all that are added

nothing_more : {X : Type 0} (xs : List X) → xs ++ [] ≡ xs
nothing_more [] = refl
nothing_more (x ∷ xs) = ap (λ ys. x ∷ ys) (nothing_more xs)

put_before : {X : Type 0} (xs : List X) (x : X) (ys : List X) → (xs ++ x ∷ []) ++ ys ≡ xs ++ x ∷ ys
put_before [] x ys = refl
put_before (z ∷ zs) x ys = ap (λ rest. z ∷ rest) (put_before zs x ys)

abbrev is_new : List Order → Order → Bool
is_new found y = not (list_any (same_order y) found)

abbrev differs : Order → Order → Bool
differs x y = not (same_order x y)

not_either : (a b c : Bool) → b ≡ c → not (a || (b || false)) ≡ (not c && not a)
not_either true true c e = rw (← e) refl
not_either true false c e = rw (← e) refl
not_either false true c e = rw (← e) refl
not_either false false c e = rw (← e) refl

new_behind : (found : List Order) (x y : Order) → is_new (found ++ x ∷ []) y ≡ (differs x y && is_new found y)
new_behind found x y = ap not (list_any-append (same_order y) found (x ∷ [])) ∙ not_either (list_any (same_order y) found) (same_order y x) (same_order x y) (same_turned y x)

new_differs : (found : List Order) (x : Order) → list_any (same_order x) found ≡ true → (y : Order) → is_new found y ≡ true → differs x y ≡ true
new_differs found x e y n = by_test (same_order x y) refl
  where
    by_test : (b : Bool) → same_order x y ≡ b → not b ≡ true
    by_test false f = refl
    by_test true f =
        let there : list_any (same_order y) found ≡ true = subst (λ (z : Order). list_any (same_order z) found ≡ true) (same_is x y f) e in
        absurd (false≢true (sym (ap not there) ∙ n))

all_added : (found xs : List Order) → fold added found xs ≡ found ++ filter (is_new found) (without_repeats same_order xs)
all_added found [] = sym (nothing_more found)
all_added found (x ∷ xs) = by_test (list_any (same_order x) found) refl (all_added found xs) (all_added (found ++ x ∷ []) xs)
  where
    by_test : (b : Bool) → list_any (same_order x) found ≡ b → fold added found xs ≡ found ++ filter (is_new found) (without_repeats same_order xs)
        → fold added (found ++ x ∷ []) xs ≡ (found ++ x ∷ []) ++ filter (is_new (found ++ x ∷ [])) (without_repeats same_order xs)
        → fold added (added found x) xs ≡ found ++ filter (is_new found) (x ∷ filter (differs x) (without_repeats same_order xs))
    by_test true e same more =
        let left_out : filter (is_new found) (x ∷ filter (differs x) (without_repeats same_order xs)) ≡ filter (is_new found) (filter (differs x) (without_repeats same_order xs)) = rw e refl in
        ap (λ ys. fold added ys xs) (stays found x e) ∙ same
        ∙ ap (λ ys. found ++ ys) (sym (left_out ∙ implied (differs x) (is_new found) (new_differs found x e) (without_repeats same_order xs)))
    by_test false e same more =
        let kept : filter (is_new found) (x ∷ filter (differs x) (without_repeats same_order xs)) ≡ x ∷ filter (is_new found) (filter (differs x) (without_repeats same_order xs)) = rw e refl in
        ap (λ ys. fold added ys xs) (goes_behind found x e) ∙ more
        ∙ put_before found x (filter (is_new (found ++ x ∷ [])) (without_repeats same_order xs))
        ∙ ap (λ ys. found ++ x ∷ ys) (joined (differs x) (is_new found) (is_new (found ++ x ∷ [])) (new_behind found x) (without_repeats same_order xs))
        ∙ ap (λ ys. found ++ ys) (sym kept)

every : (xs : List Order) → filter (is_new []) xs ≡ xs
every [] = refl
every (x ∷ xs) = ap (λ ys. x ∷ ys) (every xs)

pub none_twice : (xs : List Order) → fold added [] xs ≡ without_repeats same_order xs
none_twice xs = all_added [] xs ∙ every (without_repeats same_order xs)

-- the numbered orders of a block, added in turn
module _ (asked : Order) (conjuncts : List Conjunct) (indexes : List Order) where
  pub added_in_turn : (stored : List (Vec code.SortKey)) (nothing keys required : List code.SortKey) (planned : List Conjunct) (a b c d : List Order) → stored ≡ [] → nothing ≡ [] → a ≡ added (orders_in stored) (order_of nothing)
      → keys ≡ required → order_of required ≡ asked → b ≡ added a (order_of keys) → planned ≡ conjuncts → c ≡ fold added b (merge_orders planned) → d ≡ fold added c indexes → d ≡ numbered asked conjuncts indexes
  added_in_turn stored nothing keys required planned a b c d s n e k r f p g h =
      let first : a ≡ added [] [] = e ∙ ap₂ (λ (xs : List (Vec code.SortKey)) (ks : List code.SortKey). added (orders_in xs) (order_of ks)) s n in
      let second : b ≡ added (added [] []) asked = f ∙ ap₂ added first (ap order_of k ∙ r) in
      let third : c ≡ fold added (added (added [] []) asked) (merge_orders conjuncts) = g ∙ ap₂ (fold added) second (ap merge_orders p) in
      h ∙ ap (λ xs. fold added xs indexes) third ∙ sym (fold-append added (added (added [] []) asked) (merge_orders conjuncts) indexes) ∙ none_twice ([] ∷ asked ∷ merge_orders conjuncts ++ indexes)

-- ---- the orders of indexes, table by table

module _ (version : Version) (db : Database) (block : Block) where
  pub orders_at : (number : ℕ) (t : Table) → table_at db block number ≡ Some t → table_orders version db block number ≡ table_keys version number t
  orders_at number t e = ap told e
    where
      columns_in : Option Table → ℕ → List ℕ
      columns_in o index = unwrap_or (option_map (λ (i : Index). i.columns) (option_and_then (λ (u : Table). slice_get u.indexes index) o)) []

      told : Option Table → List Order
      told o = flat_map (λ index. map (index_keys number (columns_in o index)) (directions version)) (unwrap_or (option_map (known_indexes version) o) [])

  pub next_table : (number count : ℕ) (t : Table) (before after whole : List Order) → number < count → table_at db block number ≡ Some t → after ≡ fold added before (table_keys version number t)
      → fold added before (flat_map (table_orders version db block) (range_with_len number (count - number))) ≡ whole
      → fold added after (flat_map (table_orders version db block) (range_with_len (number + 1) (count - (number + 1)))) ≡ whole
  next_table number count t before after whole h e a w =
      let rest = flat_map (table_orders version db block) (range_with_len (number + 1) (count - (number + 1))) in
      ap (λ ys. fold added ys rest) (a ∙ ap (fold added before) (sym (orders_at number t e)))
      ∙ sym (fold-append added before (table_orders version db block number) rest)
      ∙ ap (λ ns. fold added before (flat_map (table_orders version db block) ns)) (sym (next_number number count h)) ∙ w

-- ---- the columns of an index

pub columns_told : (db : Database) (block : Block) (table number : ℕ) (t : Table) (i : Index) (columns : List ℕ) → table_at db block table ≡ Some t → slice_get t.indexes number ≡ Some i → columns ≡ i.columns
    → columns ≡ index_columns db block table number
columns_told db block table number t i columns e f c =
    c ∙ ap (λ (o : Option Index). unwrap_or (option_map (λ (j : Index). j.columns) o) []) (sym f)
    ∙ ap (λ (o : Option Table). unwrap_or (option_map (λ (j : Index). j.columns) (option_and_then (λ (u : Table). slice_get u.indexes number) o)) []) (sym e)
