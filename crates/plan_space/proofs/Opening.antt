-- The merges that are open on a set of tables, with what they cost.
use Prim.Native.Nat.{zero}
use Rattle.std.proofs.Common.{suc, ◌≡◌, ◌≢◌, ◌∙◌, refl, sym, ap, subst, ℕ, ◌+◌, ◌*◌, ◌⊎◌, inl, inr, List, [], ◌∷◌, Bool, true, false, cond, arith}
use Rattle.std.specs.Prelude.{All, AllPairs, Contains, slice_get}
use Rattle.std.specs.List.{AllByRecursion}
use Rattle.std.proofs.lemmas.Bool.Decides.{Decides-eqb}
use Rattle.std.proofs.lemmas.List.Elements.{All-from_recursion, recursion_from_All}
use Rattle.std.proofs.lemmas.List.Kept.{AllPairs-cons}
use Rattle.std.specs.Int.{bit_at}
use Rattle.definitions.specs.Plans.TableSet.{TableSet, Has, only}
use Rattle.definitions.specs.Plans.Path.{table_of}
use Rattle.definitions.specs.Plans.Plan.{Inner}
use Rattle.definitions.specs.Plans.Space.{Space}
use Rattle.definitions.specs.Plans.Cost.{saturated, share, selectivity_of, merge_cost}
use Rattle.definitions.specs.Estimates.BlockTables.{has}
use Rattle.definitions.proofs.PlanTheory.Elements.{first_is, later, first_or_rest, not_in_empty}
use Rattle.plan_tree.proofs.Tests.{has_it}
use Rattle.plan_space.specs.Merge.{Merge, FoundMerge, AreDistinct, with_pairs, open_merges, IsMerge, IsMergeItem, AreMerges, IsFound, found}
use Rattle.plan_space.specs.MergeListed.{AreMergesOf}

-- of two conjuncts or of two inner sides
abbrev Differs : ℕ → Inner → ℕ → Inner → Type 0
Differs number inner number' inner' = number ≡ number' → inner ≢ inner'

abbrev Differ : Merge → Merge → Type 0
Differ a b = Differs a.conjunct a.inner b.conjunct b.inner

module _ (tables : TableSet) (pairs : ℕ) where
  -- what is found and whose other table is there is open
  open_has : (xs : List FoundMerge) (x : FoundMerge) → Contains xs x → has tables x.other ≡ true → Contains (open_merges tables pairs xs) (with_pairs pairs x)
  open_has [] x there is = absurd (not_in_empty x there)
  open_has (y ∷ ys) x there is = by_place (λ r. open_has ys x r is) (first_or_rest y ys x there)
    where
      here : (b : Bool) → b ≡ true → y ≡ x → Contains (cond b (with_pairs pairs y ∷ open_merges tables pairs ys) (open_merges tables pairs ys)) (with_pairs pairs x)
      here true e same = first_is (with_pairs pairs y) (open_merges tables pairs ys) (with_pairs pairs x) (ap (with_pairs pairs) same)
      here false e same = absurd cc

      behind : (b : Bool) → Contains (open_merges tables pairs ys) (with_pairs pairs x) → Contains (cond b (with_pairs pairs y ∷ open_merges tables pairs ys) (open_merges tables pairs ys)) (with_pairs pairs x)
      behind true r = later (with_pairs pairs y) (open_merges tables pairs ys) (with_pairs pairs x) r
      behind false r = r

      by_place : (Contains ys x → Contains (open_merges tables pairs ys) (with_pairs pairs x)) → (y ≡ x) ⊎ Contains ys x → Contains (open_merges tables pairs (y ∷ ys)) (with_pairs pairs x)
      by_place rest (inl same) = here (has tables y.other) (ap (λ (z : FoundMerge). has tables z.other) same ∙ is) same
      by_place rest (inr r) = behind (has tables y.other) (rest r)

  -- what holds of each that is found, by its conjunct and its inner side, holds of each that is open
  open_each : (P : ℕ → Inner → Type 0) (xs : List FoundMerge) → AllByRecursion (λ (x : FoundMerge). P x.conjunct x.inner) xs
      → AllByRecursion (λ (m : Merge). P m.conjunct m.inner) (open_merges tables pairs xs)
  open_each P [] all = tt
  open_each P (x ∷ xs) all = by_test (has tables x.other) (open_each P xs all.1)
    where
      by_test : (b : Bool) → AllByRecursion (λ (m : Merge). P m.conjunct m.inner) (open_merges tables pairs xs)
          → AllByRecursion (λ (m : Merge). P m.conjunct m.inner) (cond b (with_pairs pairs x ∷ open_merges tables pairs xs) (open_merges tables pairs xs))
      by_test true rest = (all.0, rest)
      by_test false rest = rest

  -- and none is open twice
  open_distinct : (xs : List FoundMerge) → AreDistinct xs → AllPairs Differ (open_merges tables pairs xs)
  open_distinct [] distinct = λ i j d lt within. absurd (omega arith)
  open_distinct (x ∷ xs) distinct = by_test (has tables x.other) (open_distinct xs (λ i j d lt within. distinct (suc i) (suc j) d (omega arith) (omega arith)))
    where
      head : All (λ (y : FoundMerge). Differs x.conjunct x.inner y.conjunct y.inner) xs
      head k d within = distinct zero (suc k) d (omega arith) (omega arith)

      differs : All (Differ (with_pairs pairs x)) (open_merges tables pairs xs)
      differs =
          All-from_recursion (Differ (with_pairs pairs x)) (open_merges tables pairs xs)
          (open_each (Differs x.conjunct x.inner) xs (recursion_from_All (λ (y : FoundMerge). Differs x.conjunct x.inner y.conjunct y.inner) xs head))

      by_test : (b : Bool) → AllPairs Differ (open_merges tables pairs xs)
          → AllPairs Differ (cond b (with_pairs pairs x ∷ open_merges tables pairs xs) (open_merges tables pairs xs))
      by_test true rest = AllPairs-cons Differ (with_pairs pairs x) (open_merges tables pairs xs) differs rest
      by_test false rest = rest

module _ (space : Space) (tables : TableSet) (table pairs : ℕ) (are : pairs ≡ saturated (space.cardinality tables * space.cardinality (only table))) where
  cost_is : (number other : ℕ) (inner : Inner) → table_of inner.path ≡ table → (with_pairs pairs (found space number other inner)).cost ≡ merge_cost space tables number inner
  cost_is number other inner reads =
      ap (λ p. saturated ((found space number other inner).cost + share p (selectivity_of (slice_get space.conjuncts number))))
      (are ∙ ap (λ t. saturated (space.cardinality tables * space.cardinality (only t))) (sym reads))

  right : (x : FoundMerge) → IsFound space table x → has tables x.other ≡ true → IsMergeItem space tables table (with_pairs pairs x)
  right x is open' = record {
    is_merge = (is.reads, (is.merges.0, is.merges.1, is.merges.2.0, subst (Has tables) (sym is.merges.3) (has_it tables x.other open'), is.merges.2.1, is.merges.4));
    cost = ap (λ (y : FoundMerge). (with_pairs pairs y).cost) is.exact ∙ cost_is x.conjunct x.other x.inner is.reads;
  }

  each : (xs : List FoundMerge) → AllByRecursion (IsFound space table) xs → AllByRecursion (IsMergeItem space tables table) (open_merges tables pairs xs)
  each [] all = tt
  each (x ∷ xs) all = by_test (has tables x.other) refl (each xs all.1)
    where
      by_test : (b : Bool) → has tables x.other ≡ b → AllByRecursion (IsMergeItem space tables table) (open_merges tables pairs xs)
          → AllByRecursion (IsMergeItem space tables table) (cond b (with_pairs pairs x ∷ open_merges tables pairs xs) (open_merges tables pairs xs))
      by_test true e rest = (right x all.0 e, rest)
      by_test false e rest = rest

  pub are_merges : (xs : List FoundMerge) → AreMergesOf space table xs → AreMerges space tables table (open_merges tables pairs xs)
  are_merges xs of' = record {
    each = each xs of'.each;
    all = λ number inner is. one number inner is;
    distinct = open_distinct tables pairs xs of'.distinct;
  }
    where
      one : (number : ℕ) (inner : Inner) → IsMerge space tables table number inner
          → Contains (open_merges tables pairs xs) (record { conjunct = number; inner = inner; cost = merge_cost space tables number inner })
      one number inner (reads, (x, y, merge, has', at, serves)) =
          let there = of'.all number inner x y (merge, at) reads serves in
          let is_open = open_has tables pairs xs (found space number x.table inner) there ((Decides-eqb (bit_at tables x.table) 1).1 has') in
          subst (λ c. Contains (open_merges tables pairs xs) (record { conjunct = number; inner = inner; cost = c })) (cost_is number x.table inner reads) is_open
