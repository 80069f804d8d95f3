-- Shares are shares, and no number passes the limit.
use Prim.Native.Nat.{zero}
use Rattle.std.proofs.Common.{suc, ap, ◌∙◌, ◌≡◌, ℕ, ◌+◌, ◌-◌, ◌*◌, ◌≤◌, List, [], ◌∷◌, Bool, true, false, Option, Some, None, cond, lit≤, arith}
use Rattle.std.proofs.lemmas.Grind.{div_ceil_times}
use Rattle.std.proofs.Math.Nat.{le-div_iff_mul-le, mul-le-mul_left, mul-le-mul_right, mul-zero, mul-suc}
use Rattle.std.specs.Prelude.{option_map, unwrap_or, ◌&&◌, map, fold, filter}
use Rattle.std.specs.List.{AllByRecursion}
use Rattle.definitions.specs.Table.{Database}
use Rattle.definitions.specs.Statement.{ComparisonOperator, Equals, NotEquals, LessThan, GreaterThan, LessOrEquals, GreaterOrEquals}
use Rattle.definitions.specs.Plans.TableSet.{TableSet, no_tables, with_table}
use Rattle.definitions.specs.Plans.Conjunct.{Conjunct}
use Rattle.definitions.specs.Plans.Cost.{limit, saturated, share}
use Rattle.definitions.specs.Queries.BoundBlock as b
use Rattle.definitions.specs.Queries.BoundBlock.{Condition, Conditions, Block}
use Rattle.definitions.specs.Estimates.Fractions.{million, fraction, rest_of, negated_if, either_of, one_quarter, one_third}
use Rattle.definitions.specs.Estimates.Sides.{Side, PlainColumn, KnownNumber, OtherValue}
use Rattle.definitions.specs.Estimates.Selectivity.{one_key, equal_share, greater_share, comparison_share, between_share, null_share, list_share, selectivity, selectivities, range_over}
use Rattle.definitions.specs.Estimates.BlockTables.{rows_at, members}
use Rattle.definitions.specs.Queries.Conjuncts.{conjuncts}
use Rattle.definitions.specs.Estimates.PlanConjuncts.{plan_conjunct, plan_conjuncts}
use Rattle.definitions.specs.Estimates.Cardinality.{left_by, is_completed, taking, cardinality, path_rows, pages, sort_cost}

fraction_small : (a b : ℕ) → fraction a b ≤ million
fraction_small a b = omega arith

rest_small : (a : ℕ) → rest_of a ≤ million
rest_small a = omega arith

-- ---- numbers

share_less : (n f : ℕ) → f ≤ million → share n f ≤ n
share_less n f h =
    let d = (div_ceil_times (n * f) 1000000 (lit≤ tt)).1 in
    let m : n * f ≤ n * 1000000 = mul-le-mul_left n h in
    omega (arith, d, m)

spread : (a b q : ℕ) → a * b + a * q ≡ a * (b + q)
spread a b zero =
    let none : a * 0 ≡ 0 = mul-zero a in
    let same : a * (b + 0) ≡ a * b = ap (λ z. a * z) (omega arith) in
    omega (arith, none, same)
spread a b (suc q) =
    let less = spread a b q in
    let one_more : a * suc q ≡ a * q + a = mul-suc a q in
    let at_end : a * suc (b + q) ≡ a * (b + q) + a = mul-suc a (b + q) in
    let same : a * (b + suc q) ≡ a * suc (b + q) = ap (λ z. a * z) (omega arith) in
    omega (arith, less, one_more, at_end, same)

parts : (a b q : ℕ) → b + q ≡ million → a * b + a * q ≡ a * 1000000
parts a b q e = spread a b q ∙ ap (λ z. a * z) e

product_covers : (a b : ℕ) → a ≤ million → b ≤ million → (a + b - 1000000) * 1000000 ≤ a * b
product_covers a b h l =
    let p = parts a b (million - b) (omega (arith, l)) in
    let m : a * (million - b) ≤ 1000000 * (million - b) = mul-le-mul_right (million - b) h in
    omega (arith, p, m, h, l)

either_small : (a b : ℕ) → a ≤ million → b ≤ million → either_of a b ≤ million
either_small a b h l =
    let d = (le-div_iff_mul-le {k = 1000000} {x = a + b - 1000000} {y = a * b} (lit≤ tt)).1 (product_covers a b h l) in
    omega (arith, d)

third_small : one_third ≤ million
third_small = lit≤ tt

-- what is made of an option is small if each of its values makes something small, and so is what stands for none
option_small : {X : Type 0} (f : X → ℕ) (o : Option X) (d : ℕ) → ((x : X) → f x ≤ million) → d ≤ million → unwrap_or (option_map f o) d ≤ million
option_small f None d h l = l
option_small f (Some x) d h l = h x

module _ (db : Database) (block : Block) where
  -- ---- comparisons

  key_small : (keys : Option ℕ) → one_key keys ≤ million
  key_small None = lit≤ tt
  key_small (Some n) = fraction_small 1 n

  equal_small : (a b : Side) → equal_share db block a b ≤ million
  equal_small (PlainColumn x sx) (PlainColumn y sy) = key_small _
  equal_small (PlainColumn x sx) (KnownNumber u s) = key_small _
  equal_small (PlainColumn x sx) OtherValue = key_small _
  equal_small (KnownNumber u s) (PlainColumn y sy) = key_small _
  equal_small (KnownNumber u s) (KnownNumber v t) = third_small
  equal_small (KnownNumber u s) OtherValue = third_small
  equal_small OtherValue (PlainColumn y sy) = key_small _
  equal_small OtherValue (KnownNumber v t) = third_small
  equal_small OtherValue OtherValue = third_small

  greater_small : (a b : Side) → greater_share db block a b ≤ million
  greater_small (PlainColumn x sx) (PlainColumn y sy) = third_small
  greater_small (PlainColumn x sx) (KnownNumber u s) = option_small _ (range_over db block x) one_third (λ r. fraction_small _ _) third_small
  greater_small (PlainColumn x sx) OtherValue = third_small
  greater_small (KnownNumber u s) (PlainColumn y sy) = option_small _ (range_over db block y) one_third (λ r. fraction_small _ _) third_small
  greater_small (KnownNumber u s) (KnownNumber v t) = third_small
  greater_small (KnownNumber u s) OtherValue = third_small
  greater_small OtherValue (PlainColumn y sy) = third_small
  greater_small OtherValue (KnownNumber v t) = third_small
  greater_small OtherValue OtherValue = third_small

  comparison_small : (op : ComparisonOperator) (a b : Side) → comparison_share db block op a b ≤ million
  comparison_small Equals a b = equal_small a b
  comparison_small NotEquals a b = rest_small _
  comparison_small GreaterThan a b = greater_small a b
  comparison_small GreaterOrEquals a b = greater_small a b
  comparison_small LessThan a b = greater_small b a
  comparison_small LessOrEquals a b = greater_small b a

  between_small : (a b c : Side) → between_share db block a b c ≤ million
  between_small (PlainColumn x sx) (PlainColumn y sy) c = lit≤ tt
  between_small (PlainColumn x sx) (KnownNumber u s) (PlainColumn y sy) = lit≤ tt
  between_small (PlainColumn x sx) (KnownNumber u s) (KnownNumber v t) = option_small _ (range_over db block x) one_quarter (λ r. fraction_small _ _) (lit≤ tt)
  between_small (PlainColumn x sx) (KnownNumber u s) OtherValue = lit≤ tt
  between_small (PlainColumn x sx) OtherValue c = lit≤ tt
  between_small (KnownNumber u s) b c = third_small
  between_small OtherValue b c = third_small

  null_small : (a : Side) → null_share db block a ≤ million
  null_small (PlainColumn x sx) = lit≤ tt
  null_small (KnownNumber u s) = third_small
  null_small OtherValue = third_small

  list_small : (a : Side) (n : ℕ) → list_share db block a n ≤ million
  list_small (PlainColumn x sx) n = omega arith
  list_small (KnownNumber u s) n = third_small
  list_small OtherValue n = third_small

  negated_small : (negated : Bool) (a : ℕ) → a ≤ million → negated_if negated a ≤ million
  negated_small true a h = rest_small a
  negated_small false a h = h

  -- ---- conditions

  any_small : (parts : List ℕ) (a : ℕ) → AllByRecursion (λ f. f ≤ million) parts → a ≤ million → fold either_of a parts ≤ million
  any_small [] a hs h = h
  any_small (f ∷ fs) a (g, hs) h = any_small fs (either_of a f) hs (either_small a f h g)

  all_small : (parts : List ℕ) (a : ℕ) → AllByRecursion (λ f. f ≤ million) parts → a ≤ million → fold share a parts ≤ million
  all_small [] a hs h = h
  all_small (f ∷ fs) a (g, hs) h = all_small fs (share a f) hs (let s = share_less a f g in omega (arith, s, h))

  mutual
    pub selectivity_small : (c : Condition) → selectivity db block c ≤ million
    selectivity_small (b.Compare op x y) = comparison_small op _ _
    selectivity_small (b.Between negated e low high) = negated_small negated _ (between_small _ _ _)
    selectivity_small (b.InList negated e members) = negated_small negated _ (list_small _ _)
    selectivity_small (b.IsNull negated e) = negated_small negated _ (null_small _)
    selectivity_small (b.Like negated e pattern) = negated_small negated _ (lit≤ tt)
    selectivity_small (b.InQuery negated e inner) = negated_small negated _ third_small
    selectivity_small (b.Or parts) = any_small (selectivities db block parts) 0 (parts_small parts) (lit≤ tt)
    selectivity_small (b.And parts) = all_small (selectivities db block parts) million (parts_small parts) (lit≤ tt)
    selectivity_small (b.Not operand) = rest_small _
    selectivity_small (b.Quantified op quantifier e inner) = third_small
    selectivity_small (b.Exists inner) = third_small

    parts_small : (parts : Conditions) → AllByRecursion (λ f. f ≤ million) (selectivities db block parts)
    parts_small b.NoPart = tt
    parts_small (b.Part part others) = (selectivity_small part, parts_small others)

  -- ---- rows

  abbrev AreShares : List Conjunct → Type 0
  AreShares conjuncts = AllByRecursion (λ (c : Conjunct). c.selectivity ≤ million) conjuncts

  shares_of : (conditions : List Condition) → AreShares (map (plan_conjunct db block) conditions)
  shares_of [] = tt
  shares_of (c ∷ cs) = (selectivity_small c, shares_of cs)

  left_less : (kind : Conjunct → Bool) (conjuncts : List Conjunct) (rows : ℕ) → AreShares conjuncts → left_by kind conjuncts rows ≤ rows
  left_less kind [] rows h = omega arith
  left_less kind (c ∷ cs) rows (h, hs) = of_test (c.early && kind c) (λ n. left_less kind cs n hs)
    where
      of_test : (t : Bool) → ((n : ℕ) → left_by kind cs n ≤ n)
          → fold (λ left (c : Conjunct). share left c.selectivity) rows (cond t (c ∷ filter (λ (c : Conjunct). c.early && kind c) cs) (filter (λ (c : Conjunct). c.early && kind c) cs)) ≤ rows
      of_test true rest = let less = rest (share rows c.selectivity) in let s = share_less rows c.selectivity h in omega (arith, less, s)
      of_test false rest = rest rows

  pub path_rows_small : (tables : TableSet) (table : ℕ) → path_rows db block tables table ≤ rows_at db block table
  path_rows_small tables table = left_less _ (plan_conjuncts db block) _ (shares_of (conjuncts block))

  taking_small : (taken : TableSet) (rows : ℕ) (others : List ℕ) → rows ≤ limit → taking db block taken rows others ≤ limit
  taking_small taken rows [] h = h
  taking_small taken rows (table ∷ others) h =
      let less = left_less (is_completed taken table) (plan_conjuncts db block) (saturated (rows * rows_at db block table)) (shares_of (conjuncts block)) in
      taking_small (with_table taken table) _ others (within (rows * rows_at db block table) _ less)
    where
      within : (n m : ℕ) → m ≤ saturated n → m ≤ limit
      within n m h = omega (arith, h)

  pub cardinality_small : (tables : TableSet) → cardinality db block tables ≤ limit
  cardinality_small tables = taking_small no_tables 1 (members block tables) (lit≤ tt)

  pub sort_small : (tables : TableSet) → sort_cost db block tables ≤ limit
  sort_small tables = small (20 * pages db block tables + cardinality db block tables)
    where
      small : (n : ℕ) → saturated n ≤ limit
      small n = omega arith
