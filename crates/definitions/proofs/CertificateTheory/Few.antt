-- A block has few tables, indexes, conjuncts and orders.
use Rattle.std.proofs.Common.{◌≡◌, refl, ℕ, zero, suc, ◌+◌, ◌*◌, ◌≤◌, Bool, true, false, lit≤, List, [], ◌∷◌, ◌++◌, Option, Some, None, length, map, filter, cond, arith}
use Rattle.std.specs.Prelude.{flat_map, slice_get, option_map, option_and_then, unwrap_or, not, nat_eq}
use Rattle.std.specs.List.{AllByRecursion, range_with_len}
use Rattle.std.proofs.lemmas.List.{length-append, length-map}
use Rattle.definitions.specs.Limits.{most_indexes}
use Rattle.definitions.specs.Table.{Table, Database}
use Rattle.definitions.specs.Invariant.{IsTable, IsDatabase}
use Rattle.definitions.specs.Queries.BoundBlock.{Block}
use Rattle.definitions.specs.Queries.Conjuncts.{conjuncts}
use Rattle.definitions.specs.Binding.Formed.{IsFormedSomewhere}
use Rattle.definitions.specs.Plans.Order.{Order, BlockColumn, ascending}
use Rattle.definitions.specs.Plans.Conjunct.{Conjunct}
use Rattle.definitions.specs.Lists.{without_repeats}
use Rattle.definitions.specs.Plans.Numbering.{same_order, side_orders, merge_orders}
use Rattle.definitions.specs.Estimates.Version.{Three, directions}
use Rattle.definitions.specs.Estimates.PlanConjuncts.{plan_conjuncts, plan_conjunct}
use Rattle.definitions.specs.Estimates.Orders.{known_indexes, indexes_at, required_of, index_order, table_orders, index_orders, orders_of}

pub at_place : {X : Type 0} (P : X → Type 0) (xs : List X) (n : ℕ) (x : X) → AllByRecursion P xs → slice_get xs n ≡ Some x → P x
at_place P [] n x h e = absurd cc
at_place P (y ∷ ys) zero x h e = let same : y ≡ x = cc in rw same at h.0
at_place P (y ∷ ys) (suc n) x h e = at_place P ys n x h.1 e

fewer : {X : Type 0} (p : X → Bool) (xs : List X) → length (filter p xs) ≤ length xs
fewer p [] = lit≤ tt
fewer p (x ∷ xs) = of_test (p x) (fewer p xs)
  where
    of_test : (b : Bool) → length (filter p xs) ≤ length xs → length (cond b (x ∷ filter p xs) (filter p xs)) ≤ suc (length xs)
    of_test true h = omega (arith, h)
    of_test false h = omega (arith, h)

no_more_orders : (orders : List Order) → length (without_repeats same_order orders) ≤ length orders
no_more_orders [] = lit≤ tt
no_more_orders (order ∷ orders) =
    let h = no_more_orders orders in
    let k = fewer (λ other. not (same_order order other)) (without_repeats same_order orders) in
    omega (arith, h, k)

few_flat : {X Y : Type 0} (f : X → List Y) (n : ℕ) → ((x : X) → length (f x) ≤ n) → (xs : List X) → length (flat_map f xs) ≤ n * length xs
few_flat f n h [] = omega arith
few_flat f n h (x ∷ xs) =
    let own = h x in
    let rest = few_flat f n h xs in
    let sum = length-append (f x) (flat_map f xs) in
    grind (arith, own, rest, sum)

side_few : (o : Option (BlockColumn × BlockColumn)) → length (side_orders o) ≤ 2
side_few None = lit≤ tt
side_few (Some (x, y)) = of_test (nat_eq x.table y.table)
  where
    of_test : (b : Bool) → length (cond b [] (ascending x ∷ ascending y ∷ [])) ≤ 2
    of_test true = lit≤ tt
    of_test false = lit≤ tt

merges_few : (cs : List Conjunct) → length (merge_orders cs) ≤ 2 * length cs
merges_few [] = lit≤ tt
merges_few (c ∷ cs) = of_test c.early (merges_few cs)
  where
    of_test : (b : Bool) → length (merge_orders cs) ≤ 2 * length cs → length ((cond b (side_orders c.equated) []) ++ merge_orders cs) ≤ 2 * suc (length cs)
    of_test true rest = let own = side_few c.equated in omega (arith, own, rest, length-append (side_orders c.equated) (merge_orders cs))
    of_test false rest = omega (arith, rest)

range_length : (from count : ℕ) → length (range_with_len from count) ≡ count
range_length from zero = refl
range_length from (suc count) = let h = range_length (from + 1) count in omega (arith, h)

module _ (db : Database) (block : Block) (valid : IsDatabase db) where
  indexes_few : (table : ℕ) → length (indexes_at Three db block table) ≤ most_indexes
  indexes_few table = of_place (slice_get block.tables table)
    where
      of_table : (o : Option Table) → ((t : Table) → o ≡ Some t → IsTable t) → length (unwrap_or (option_map (known_indexes Three) o) []) ≤ most_indexes
      of_table None h = lit≤ tt
      of_table (Some t) h = let few = (h t refl).indexes in omega (arith, few, range_length 0 (length t.indexes))

      of_place : (o : Option ℕ) → length (unwrap_or (option_map (known_indexes Three) (option_and_then (slice_get db) o)) []) ≤ most_indexes
      of_place None = lit≤ tt
      of_place (Some n) = of_table (slice_get db n) (λ t is. at_place IsTable db n t valid.each is)

  table_few : (table : ℕ) → length (table_orders Three db block table) ≤ 32
  table_few table =
      let each = few_flat (λ number. map (index_order db block table number) (directions Three)) 2 (λ number. lit≤ tt) (indexes_at Three db block table) in
      let few = indexes_few table in
      omega (arith, each, few)

  pub orders_few : IsFormedSomewhere db block → length (orders_of Three db block) ≤ 1000
  orders_few (blocks, around, n, formed) =
      let tables = formed.count in
      let own = formed.conjuncts in
      let each = few_flat (table_orders Three db block) 32 table_few (range_with_len 0 (length block.tables)) in
      let merges = merges_few (plan_conjuncts db block) in
      let as_many = length-map (conjuncts block) (plan_conjunct db block) in
      let sum = length-append (merge_orders (plan_conjuncts db block)) (index_orders Three db block) in
      let whole = no_more_orders ([] ∷ required_of block ∷ merge_orders (plan_conjuncts db block) ++ index_orders Three db block) in
      omega (arith, tables, own, each, merges, as_many, sum, whole, range_length 0 (length block.tables))
