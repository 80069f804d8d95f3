-- The merges of a conjunct with one path.
use Rattle.std.proofs.Common.{◌≡◌, ◌≢◌, ◌∙◌, refl, sym, ap, ap₂, subst, ℕ, ◌+◌, ◌⊎◌, inl, inr, List, [], ◌∷◌, ◌++◌, Bool, true, false, Some, map, get_or}
use Rattle.std.specs.Prelude.{Contains}
use Rattle.std.specs.List.{AllByRecursion}
use Rattle.std.proofs.lemmas.List.Elements.{Contains-get_or, Contains-append_left, Contains-append_right, Contains-push_cases}
use Rattle.std.proofs.lemmas.List.Quantifiers.{all_pairs_push}
use Rattle.std.proofs.lemmas.Nat.Bits.{bit_at-pow_same}
use Rattle.definitions.specs.Plans.TableSet.{Has, only, no_tables}
use Rattle.definitions.specs.Plans.Order.{BlockColumn, ascending}
use Rattle.definitions.specs.Plans.Path.{Path, table_of}
use Rattle.definitions.specs.Plans.Plan.{Inner}
use Rattle.definitions.specs.Plans.Space.{Space, order_at}
use Rattle.definitions.specs.Plans.ColumnClass.{Satisfies}
use Rattle.definitions.specs.Plans.PlanSpace.{IsPath, IsInner}
use Rattle.definitions.specs.Plans.Cost.{saturated, inner_cost}
use Rattle.definitions.proofs.PlanTheory.Elements.{first_is}
use Rattle.definitions.proofs.PlanTheory.TableSets.{only_has}
use Rattle.interesting_orders.specs.Merges.{GoesBy}
use Rattle.plan_space.specs.Item.{Item, IsItem}
use Rattle.plan_space.specs.Merge.{FoundMerge, AreDistinct, MergesBy, found, IsFound, IsGrown, AddsPath}
use Rattle.plan_space.specs.MergeListed.{found_merge_of, IsWay}
use Rattle.plan_space.specs.declared.listed.MergeJoinPath.{MergeJoinPath}
use Rattle.plan_space.specs.declared.listed.MergeClause.{MergeClause}
use Rattle.plan_space.proofs.Sides.{turned, same_sides}

module _ (space : Space) (table : ℕ) where
  one_more : (xs : List FoundMerge) (x : FoundMerge) → AllByRecursion (IsFound space table) xs → IsFound space table x → AllByRecursion (IsFound space table) (xs ++ x ∷ [])
  one_more [] x all is = (is, tt)
  one_more (y ∷ ys) x all is = (all.0, one_more ys x all.1 is)

  pub grown : (xs : List FoundMerge) (x : FoundMerge) → IsFound space table x → IsGrown space table xs (xs ++ x ∷ [])
  grown xs x is = record { kept = λ y there. Contains-append_left xs (x ∷ []) y there; right = λ all. one_more xs x all is }

  pub then_grown : (a b c : List FoundMerge) → IsGrown space table a b → IsGrown space table b c → IsGrown space table a c
  then_grown a b c first second = record { kept = λ x there. second.kept x (first.kept x there); right = λ all. second.right (first.right all) }

-- one more, which differs from those before it
distinct_more : (xs : List FoundMerge) (y : FoundMerge) → AreDistinct xs → ((x : FoundMerge) → Contains xs x → x.conjunct ≡ y.conjunct → x.inner ≢ y.inner) → AreDistinct (xs ++ y ∷ [])
distinct_more xs y distinct differs =
    all_pairs_push (λ (a b : FoundMerge). a.conjunct ≡ b.conjunct → a.inner ≢ b.inner) xs y distinct (λ k d lt. differs (get_or xs k d) (Contains-get_or xs k d lt))

last_there : (xs : List FoundMerge) (x : FoundMerge) → Contains (xs ++ x ∷ []) x
last_there xs x = Contains-append_right xs (x ∷ []) x (first_is x [] x refl)

module _ (space : Space) (clause : MergeClause) (is : IsWay space clause.table clause.conjunct (Some clause)) (item : Item) (right : IsItem space no_tables clause.table item) (path : IsPath space no_tables item.path) where
  abbrev outer : BlockColumn
  outer = is.2.0

  abbrev column : BlockColumn
  column = is.2.1

  abbrev pub inner : Bool → Inner
  inner sorted = record { path = item.path; sorted = sorted }

  abbrev pub listed : Bool → ℕ → FoundMerge
  listed sorted cost = record { conjunct = clause.conjunct; other = clause.other; inner = inner sorted; cost = cost; selectivity = clause.selectivity }

  exact : (sorted : Bool) (cost : ℕ) → cost ≡ inner_cost space (inner sorted) → listed sorted cost ≡ found space clause.conjunct clause.other (inner sorted)
  exact sorted cost e =
      ap₂ (λ (c s : ℕ). let all : FoundMerge = record { conjunct = clause.conjunct; other = clause.other; inner = inner sorted; cost = c; selectivity = s } in all) e is.3

  sorted_cost : saturated (item.cost + clause.sort_cost.number) ≡ inner_cost space (inner true)
  sorted_cost = ap₂ (λ (a b : ℕ). saturated (a + b)) right.cost (is.4 ∙ ap (λ t. space.sort_cost (only t)) (sym right.reads))

  is_found : (sorted : Bool) (cost : ℕ) → cost ≡ inner_cost space (inner sorted) → IsInner space column (inner sorted) → IsFound space clause.table (listed sorted cost)
  is_found sorted cost e serves = record { reads = right.reads; merges = (outer, column, is.2.2, is.2.3, serves); exact = exact sorted cost e }

  -- the path's order goes by the column, as the conjunct's other side has it
  serves : GoesBy space (only clause.table) item.order clause.conjunct clause.other → IsInner space column (inner false)
  serves (x, y, merge, has, other, satisfied) =
      let at : x.table ≡ column.table = only_has clause.table x.table has ∙ sym is.2.2.1 in
      let same = same_sides space clause.conjunct y x outer column (turned space clause.conjunct x y merge) is.2.2.0 at in (
        path,
        inr (
          refl,
          subst (λ t. Satisfies space (only t) (order_at space (space.path_order item.path)) (ascending column)) (sym right.reads)
              (subst (λ o. Satisfies space (only clause.table) (order_at space o) (ascending column)) right.order
              (subst (λ (c : BlockColumn). Satisfies space (only clause.table) (order_at space item.order) (ascending c)) same.1 satisfied)),
        ),
      )

  -- and where it doesn't, it is no inner side as it is
  goes : (outer' column' : BlockColumn) → MergesBy space clause.table clause.conjunct outer' column' → Satisfies space (only clause.table) (order_at space item.order) (ascending column') → GoesBy space (only clause.table) item.order clause.conjunct clause.other
  goes outer' column' merges satisfied =
      let same = same_sides space clause.conjunct outer' column' outer column merges.0 is.2.2.0 (merges.1 ∙ sym is.2.2.1) in (
        column',
        outer',
        turned space clause.conjunct outer' column' merges.0,
        subst (Has (only clause.table)) (sym merges.1) (bit_at-pow_same clause.table),
        ap (λ (c : BlockColumn). c.table) same.0 ∙ is.2.3,
        satisfied,
      )

  abbrev pub with_sort : FoundMerge
  with_sort = listed true (saturated (item.cost + clause.sort_cost.number))

  abbrev pub as_it_is : FoundMerge
  as_it_is = listed false item.cost

  sort_found : IsFound space clause.table with_sort
  sort_found = is_found true (saturated (item.cost + clause.sort_cost.number)) sorted_cost (path, inl refl)

  abbrev Has' : List FoundMerge → Bool → Type 0
  Has' new sorted = Contains new (found space clause.conjunct clause.other (inner sorted))

  -- what is there of the path is there of all inner sides with it
  there : (new : List FoundMerge) → Has' new true → (GoesBy space (only clause.table) item.order clause.conjunct clause.other → Has' new false)
      → (side : Inner) (x y : BlockColumn) → MergesBy space clause.table clause.conjunct x y → table_of side.path ≡ clause.table → side.path ≡ item.path → IsInner space y side
      → Contains new (found space clause.conjunct x.table side)
  there new sorted plain side x y merges reads of_path serves =
      let same = same_sides space clause.conjunct x y outer column merges.0 is.2.2.0 (merges.1 ∙ sym is.2.2.1) in
      let other : x.table ≡ clause.other = ap (λ (c : BlockColumn). c.table) same.0 ∙ is.2.3 in
      rw other (by_sort side of_path reads y merges serves.1)
    where
      at : (b : Bool) (side : Inner) → side.path ≡ item.path → side.sorted ≡ b → Has' new b → Contains new (found space clause.conjunct clause.other side)
      at b side of_path e has =
          let same : inner b ≡ side = ap₂ (λ (p : Path) (s : Bool). let i : Inner = record { path = p; sorted = s } in i) (sym of_path) (sym e) in
          subst (λ (i : Inner). Contains new (found space clause.conjunct clause.other i)) same has

      by_sort : (side : Inner) → side.path ≡ item.path → table_of side.path ≡ clause.table → (y : BlockColumn) → MergesBy space clause.table clause.conjunct x y
          → (side.sorted ≡ true) ⊎ ((side.sorted ≡ false) × Satisfies space (only (table_of side.path)) (order_at space (space.path_order side.path)) (ascending y))
          → Contains new (found space clause.conjunct clause.other side)
      by_sort side of_path reads y merges (inl e) = at true side of_path e sorted
      by_sort side of_path reads y merges (inr (e, satisfied)) =
          at false side of_path e (plain (goes x y merges
          (subst (λ o. Satisfies space (only clause.table) (order_at space o) (ascending y)) (sym right.order)
          (subst (λ (p : Path). Satisfies space (only clause.table) (order_at space (space.path_order p)) (ascending y)) of_path
          (subst (λ t. Satisfies space (only t) (order_at space (space.path_order side.path)) (ascending y)) reads satisfied)))))

  -- what is added is of the conjunct and the path
  abbrev IsOfPath : FoundMerge → Type 0
  IsOfPath x = (x.conjunct ≡ clause.conjunct) × (x.inner.path ≡ item.path)

  added_one : (old : List FoundMerge) (sorted : Bool) (cost : ℕ) (x : FoundMerge) → Contains (old ++ listed sorted cost ∷ []) x → Contains old x ⊎ IsOfPath x
  added_one old sorted cost x there = by_place (Contains-push_cases old (listed sorted cost) x there)
    where
      by_place : Contains old x ⊎ (listed sorted cost ≡ x) → Contains old x ⊎ IsOfPath x
      by_place (inl h) = inl h
      by_place (inr e) = inr (ap (λ (y : FoundMerge). y.conjunct) (sym e), ap (λ (y : FoundMerge). y.inner.path) (sym e))

  added_both : (old : List FoundMerge) (x : FoundMerge) → Contains ((old ++ with_sort ∷ []) ++ as_it_is ∷ []) x → Contains old x ⊎ IsOfPath x
  added_both old x there = by_place (added_one (old ++ with_sort ∷ []) false item.cost x there)
    where
      by_place : Contains (old ++ with_sort ∷ []) x ⊎ IsOfPath x → Contains old x ⊎ IsOfPath x
      by_place (inl h) = added_one old true (saturated (item.cost + clause.sort_cost.number)) x h
      by_place (inr of_path) = inr of_path

  -- and none is added twice
  abbrev IsNew : List FoundMerge → Type 0
  IsNew old = (x : FoundMerge) → Contains old x → x.conjunct ≡ clause.conjunct → x.inner.path ≢ item.path

  sort_distinct : (old : List FoundMerge) → AreDistinct old → IsNew old → AreDistinct (old ++ with_sort ∷ [])
  sort_distinct old distinct new = distinct_more old with_sort distinct (λ x h same e. new x h same (ap (λ (i : Inner). i.path) e))

  both_distinct : (old : List FoundMerge) → AreDistinct old → IsNew old → AreDistinct ((old ++ with_sort ∷ []) ++ as_it_is ∷ [])
  both_distinct old distinct new =
      distinct_more (old ++ with_sort ∷ []) as_it_is (sort_distinct old distinct new) (λ x h same e. by_place x same e (Contains-push_cases old with_sort x h))
    where
      by_place : (x : FoundMerge) → x.conjunct ≡ clause.conjunct → x.inner ≡ inner false → Contains old x ⊎ (with_sort ≡ x) → ⊥
      by_place x same e (inl h) = new x h same (ap (λ (i : Inner). i.path) e)
      by_place x same e (inr is) = let both : true ≡ false = ap (λ (y : FoundMerge). y.inner.sorted) is ∙ ap (λ (i : Inner). i.sorted) e in absurd cc

  pub adds_sorted : (old : List FoundMerge) → (GoesBy space (only clause.table) item.order clause.conjunct clause.other → ⊥) → AddsPath space clause.table clause.conjunct item.path old (old ++ with_sort ∷ [])
  adds_sorted old never = record {
    grown = grown space clause.table old with_sort sort_found;
    there = there (old ++ with_sort ∷ []) (subst (λ (x : FoundMerge). Contains (old ++ with_sort ∷ []) x) (exact true (saturated (item.cost + clause.sort_cost.number)) sorted_cost) (last_there old with_sort))
        (λ by'. absurd (never by'));
    added = added_one old true (saturated (item.cost + clause.sort_cost.number));
    distinct = sort_distinct old;
  }

  pub adds_both : (old : List FoundMerge) → GoesBy space (only clause.table) item.order clause.conjunct clause.other → AddsPath space clause.table clause.conjunct item.path old ((old ++ with_sort ∷ []) ++ as_it_is ∷ [])
  adds_both old by' =
      let first = adds_with old in
      let plain_found = is_found false item.cost right.cost (serves by') in
      let second = grown space clause.table (old ++ with_sort ∷ []) as_it_is plain_found in
      record {
        grown = then_grown space clause.table old (old ++ with_sort ∷ []) ((old ++ with_sort ∷ []) ++ as_it_is ∷ []) (grown space clause.table old with_sort sort_found) second;
        there = there ((old ++ with_sort ∷ []) ++ as_it_is ∷ []) (second.kept _ first)
            (λ _. subst (λ (x : FoundMerge). Contains ((old ++ with_sort ∷ []) ++ as_it_is ∷ []) x) (exact false item.cost right.cost) (last_there (old ++ with_sort ∷ []) as_it_is));
        added = added_both old;
        distinct = both_distinct old;
      }
    where
      adds_with : (old : List FoundMerge) → Has' (old ++ with_sort ∷ []) true
      adds_with old = subst (λ (x : FoundMerge). Contains (old ++ with_sort ∷ []) x) (exact true (saturated (item.cost + clause.sort_cost.number)) sorted_cost) (last_there old with_sort)

-- what is pushed comes last
pub pushed : (xs new : List MergeJoinPath) (y : MergeJoinPath) (x : FoundMerge) → new ≡ xs ++ y ∷ [] → found_merge_of y ≡ x → map found_merge_of new ≡ map found_merge_of xs ++ x ∷ []
pushed xs new y x is told = ap (map found_merge_of) is ∙ together xs ∙ ap (λ z. map found_merge_of xs ++ z ∷ []) told
  where
    together : (zs : List MergeJoinPath) → map found_merge_of (zs ++ y ∷ []) ≡ map found_merge_of zs ++ found_merge_of y ∷ []
    together [] = refl
    together (z ∷ zs) = ap (λ rest. found_merge_of z ∷ rest) (together zs)
