-- A merge in step over cleaned inner rows gives what the merge is defined to give.
use Rattle.std.specs.Cmp.{alike_right, tied_back}
use Rattle.std.specs.Ordering.{ordering_then, is_le}
use Rattle.std.specs.declared.cmp.Ordering.{Ordering}
use Rattle.std.specs.declared.cmp.Ordering.TheVariants.{Less, Greater}
use Rattle.definitions.specs.Value.{Value, Null, compare, rank, AreNotDistinct}
use Rattle.definitions.specs.Plans.TableSet.{Has, only, with_table}
use Rattle.definitions.specs.Plans.Order.{BlockColumn, Order, ascending}
use Rattle.definitions.specs.Plans.Conjunct.{Conjunct}
use Rattle.definitions.specs.Plans.Path.{table_of}
use Rattle.definitions.specs.Plans.Plan.{Inner, Plan, Merge}
use Rattle.definitions.specs.Plans.Space.{Space, order_at}
use Rattle.definitions.specs.Plans.ColumnClass.{Equates, Satisfies}
use Rattle.definitions.specs.Plans.PlanSpace.{IsInner, IsPlan, merge, tables_of}
use Rattle.definitions_execution.specs.Lists.{In, Rises, sorted_by}
use Rattle.definitions_execution.specs.RowOrder.{may_stand_before, NotAfter}
use Rattle.definitions_execution.specs.Stored.{Composite, row_number, Stored, value_at, rows_along}
use Rattle.definitions_execution.specs.Fits.{Fits}
use Rattle.definitions_execution.specs.Passing.{nothing, passes, IsOn}
use Rattle.definitions_execution.specs.Running.{is_opened, run, inner_side, inner_column, inner_rows, delivered}
use Rattle.definitions_execution.specs.Merging.{merged_by, outer_side, outer_column, clean_rows, merged}
use Rattle.definitions.proofs.Ranking.{rank_total, rank_as_compared, equally_ranked}
use Rattle.definitions.proofs.PlanTheory.TableSets.{only_has}
use Rattle.definitions_execution.proofs.Members.{from_filter, rises_weaker, rises_filter}
use Rattle.definitions_execution.proofs.RowOrders.{not_after_same, not_after_other, not_after_on}
use Rattle.definitions_execution.proofs.Sorting.{sort_sorted}
use Rattle.definitions_execution.proofs.Steps.{with_same, passes_alike, passes_narrower}
use Rattle.definitions_execution.proofs.Plans.{with_zero, path_keys, nothing_long, delivers}
use Rattle.definitions_execution.proofs.Classes.{order_satisfied, gives_satisfied}
use Rattle.definitions_execution.proofs.Pointers.{AtMost, by_pointers}
use Rattle.std.proofs.Common.{sym, ap, ap₂, ◌∙◌, subst, ◌≡◌, ◌≢◌, ◌↔◌, ℕ, ◌<◌, ◌⊎◌, inl, inr, List, [], ◌∷◌, ◌++◌, set, map, filter, flat_map, slice_get, Bool, true, false, cond, nat_eq, Option, Some, is_some, Equal, arith, refl, rules, true≢false, get_or-set_same, get_or-set_other}

-- a null compares as equal with nothing
null_compares : (a : Value) → compare Null a ≡ Some Equal → ⊥
null_compares a h = absurd (true≢false (sym (ap is_some h)))

-- values that compare as equal do so the other way round, and with each value of the same rank
pub equal_on : (a b c : Value) → compare a b ≡ Some Equal → rank b c ≡ Equal → compare a c ≡ Some Equal
equal_on a b c h e = of_kinds (equally_ranked a c (sym (alike_right rank_total b c a e) ∙ rank_as_compared a b Equal h))
  where
    of_kinds : AreNotDistinct a c → compare a c ≡ Some Equal
    of_kinds (inr f) = f
    of_kinds (inl (f, g)) = absurd (null_compares b (subst (λ w. compare w b ≡ Some Equal) f h))

pub equal_back : (a b : Value) → compare a b ≡ Some Equal → compare b a ≡ Some Equal
equal_back a b h = of_kinds (equally_ranked b a (tied_back rank_total a b (rank_as_compared a b Equal h)))
  where
    of_kinds : AreNotDistinct b a → compare b a ≡ Some Equal
    of_kinds (inr f) = f
    of_kinds (inl (f, g)) = absurd (null_compares b (subst (λ w. compare w b ≡ Some Equal) g h))

flat_same : {X Y : Type 0} → (f g : X → List Y) (xs : List X) → ((x : X) → In x xs → f x ≡ g x) → flat_map f xs ≡ flat_map g xs
flat_same f g [] h = refl
flat_same f g (x ∷ xs) h = ap₂ (λ a b. a ++ b) (h x (inl refl)) (flat_same f g xs (λ y i. h y (inr i)))

-- a test before that the test behind implies changes nothing
narrowed : {X Y : Type 0} → (p : Y → Bool) (f : X → Y) (e cl : X → Bool) (xs : List X) → ((x : X) → p (f x) ≡ true → cl x ≡ true) → filter p (map f (filter e (filter cl xs))) ≡ filter p (map f (filter e xs))
narrowed p f e cl [] h = refl
narrowed {X} {Y} p f e cl (x ∷ xs) h = by_test (cl x) refl (e x) refl (p (f x)) refl (narrowed p f e cl xs h)
  where
    by_test : (a : Bool) → cl x ≡ a → (b : Bool) → e x ≡ b → (c : Bool) → p (f x) ≡ c → filter p (map f (filter e (filter cl xs))) ≡ filter p (map f (filter e xs)) → filter p (map f (filter e (cond a (x ∷ filter cl xs) (filter cl xs)))) ≡ filter p (map f (cond b (x ∷ filter e xs) (filter e xs)))
    by_test true r false s c t rest = ap (λ w. filter p (map f (cond w (x ∷ filter e (filter cl xs)) (filter e (filter cl xs))))) s ∙ rest
    by_test true r true s c t rest = ap (λ w. filter p (map f (cond w (x ∷ filter e (filter cl xs)) (filter e (filter cl xs))))) s ∙ ap (λ w. cond (p (f x)) (f x ∷ w) w) rest
    by_test false r false s c t rest = rest
    by_test false r true s true t rest = absurd (true≢false (sym (h x t) ∙ r))
    by_test false r true s false t rest = rest ∙ sym (ap (λ w. cond w (f x ∷ filter p (map f (filter e xs))) (filter p (map f (filter e xs)))) t)

pub one_key : {X : Type 0} → (f : BlockColumn → X → Value) (y : BlockColumn) (a b : X) → NotAfter f (ascending y) a b → AtMost (f y a) (f y b)
one_key f y a b h = alone (rank (f y a) (f y b)) h
  where
    alone : (o : Ordering) → is_le (ordering_then o Equal) ≡ true → is_le o ≡ true
    alone Less h = refl
    alone Equal h = refl
    alone Greater h = h

side_is : (t : ℕ) (x y : BlockColumn) (o : Option (BlockColumn × BlockColumn)) → x.table ≢ t → y.table ≡ t → (o ≡ Some (x, y)) ⊎ (o ≡ Some (y, x)) → (inner_side t o ≡ y) × (outer_side t o ≡ x)
side_is t x y o ne e (inl h) = let n : nat_eq x.table t ≡ false = search (rules, ne) in rw h (ap (λ b. cond b x y) n, ap (λ b. cond b y x) n)
side_is t x y o ne e (inr h) = let n : nat_eq y.table t ≡ true = search (rules, e) in rw h (ap (λ b. cond b y x) n, ap (λ b. cond b x y) n)

module _ (q : Space) (d : Stored) (v : Fits q d) (s g : ℕ) (i : Inner) (x y : BlockColumn) (lt : table_of i.path < q.table_count) (eqs : Equates q g x y) (ne : x.table ≢ y.table) (hy : y.table ≡ table_of i.path) where
  abbrev t : ℕ
  t = table_of i.path

  pub sides_are : (inner_column t (slice_get q.conjuncts g) ≡ y) × (outer_column t (slice_get q.conjuncts g) ≡ x)
  sides_are = let (k, e, early, h) = eqs in rw e (side_is t x y k.equated (λ f. ne (f ∙ sym hy)) hy h)

  pub equates : (c : List ℕ) → (d.holds g c ≡ true) ↔ (compare (value_at d x c) (value_at d y c) ≡ Some Equal)
  equates c = let (k, e, early, h) = eqs in of_side k e h
    where
      of_side : (k : Conjunct) → slice_get q.conjuncts g ≡ Some k → (k.equated ≡ Some (x, y)) ⊎ (k.equated ≡ Some (y, x)) → (d.holds g c ≡ true) ↔ (compare (value_at d x c) (value_at d y c) ≡ Some Equal)
      of_side k e (inl h) = v.equal g k x y c e h
      of_side k e (inr h) = let w = v.equal g k y x c e h in ((λ p. equal_back (value_at d y c) (value_at d x c) (w.0 p)), (λ p. w.1 (equal_back (value_at d x c) (value_at d y c) p)))

  pub cells : (c : List ℕ) (r : ℕ) → IsOn q d s c → (value_at d x (set c t r) ≡ value_at d x c) × (value_at d y (set c t r) ≡ d.value_in y r)
  cells c r o =
      let here : row_number (set c t r) t ≡ r = get_or-set_same c t r 0 (omega (arith, o.0, lt)) in
      let there : row_number (set c t r) y.table ≡ r = ap (row_number (set c t r)) hy ∙ here in
      (ap (d.value_in x) (get_or-set_other c t x.table r 0 (λ f. ne (f ∙ sym hy))), ap (d.value_in y) there)

  pub same : (c : Composite) (r : ℕ) → IsOn q d s c → d.holds g (set c t r) ≡ true → rank (value_at d x c) (d.value_in y r) ≡ Equal
  same c r o h = let w = cells c r o in ap₂ rank (sym w.0) (sym w.1) ∙ rank_as_compared (value_at d x (set c t r)) (value_at d y (set c t r)) Equal ((equates (set c t r)).0 h)

  pub both : (c : Composite) (r r' : ℕ) → IsOn q d s c → d.holds g (set c t r') ≡ true → rank (d.value_in y r) (d.value_in y r') ≡ Equal → d.holds g (set c t r) ≡ true
  both c r r' o h e =
      let w = cells c r o in
      let w' = cells c r' o in
      let one : compare (value_at d x c) (d.value_in y r') ≡ Some Equal = sym (ap₂ compare w'.0 w'.1) ∙ (equates (set c t r')).0 h in
      let two : compare (value_at d x c) (d.value_in y r) ≡ Some Equal = equal_on (value_at d x c) (d.value_in y r') (d.value_in y r) one (tied_back rank_total (d.value_in y r) (d.value_in y r') e) in
      (equates (set c t r)).1 (ap₂ compare w.0 w.1 ∙ two)

  pub clean : (c : List ℕ) (r : ℕ) → IsOn q d s c → passes q d (with_table s t) (set c t r) ≡ true → passes q d (with_table 0 t) (set (nothing q) t r) ≡ true
  clean c r o p = passes_alike q d v (with_table 0 t) (set c t r) (set (nothing q) t r) (λ u b.
      let f : u ≡ t = only_has t u (subst (λ w. Has w u) (with_zero t) b) in
      let one : row_number (set (nothing q) t r) t ≡ r = get_or-set_same (nothing q) t r 0 (omega (arith, nothing_long q d v, lt)) in
      let two : row_number (set c t r) t ≡ r = get_or-set_same c t r 0 (omega (arith, o.0, lt)) in
      rw f (two ∙ sym one)) (passes_narrower q d v (with_table 0 t) (with_table s t) (set c t r) (λ u b. let f : u ≡ t = only_has t u (subst (λ w. Has w u) (with_zero t) b) in rw f (with_same s t)) p)

  at : (r : ℕ) (z : BlockColumn) → z.table ≡ t → d.value_in z r ≡ value_at d z (set (nothing q) t r)
  at r z e =
      let here : row_number (set (nothing q) t r) t ≡ r = get_or-set_same (nothing q) t r 0 (omega (arith, nothing_long q d v, lt)) in
      sym (ap (d.value_in z) (ap (row_number (set (nothing q) t r)) e ∙ here))

  abbrev pub Up : ℕ → ℕ → Type 0
  Up r r' = AtMost (d.value_in y r) (d.value_in y r')

  pub clean_sorted : IsInner q y i → Rises Up (clean_rows q d g i)
  clean_sorted (is, kind) = by_kind i.sorted refl kind
    where
      ys : Order
      ys = ascending (inner_column t (slice_get q.conjuncts g))

      rows : List ℕ
      rows = run d i.path (nothing q)

      tidy : ℕ → Bool
      tidy r = passes q d (with_table 0 t) (set (nothing q) t r)

      by_kind : (b : Bool) → i.sorted ≡ b → (i.sorted ≡ true) ⊎ ((i.sorted ≡ false) × Satisfies q (only t) (order_at q (q.path_order i.path)) (ascending y)) → Rises Up (filter tidy (cond b (sorted_by (may_stand_before d.value_in ys) rows) rows))
      by_kind true e k = rises_filter Up tidy (sorted_by (may_stand_before d.value_in ys) rows) (rises_weaker (NotAfter d.value_in ys) Up (sorted_by (may_stand_before d.value_in ys) rows) (λ r r' a b l. subst (λ w. AtMost (d.value_in w r) (d.value_in w r')) sides_are.0 (one_key d.value_in (inner_column t (slice_get q.conjuncts g)) r r' l)) (sort_sorted (may_stand_before d.value_in ys) (NotAfter d.value_in ys) (λ a b h. h) (λ a b h. not_after_other d.value_in ys a b h) (λ a b c h k. not_after_on d.value_in ys a b c h k) rows))
      by_kind false e (inl f) = absurd (true≢false (sym f ∙ e))
      by_kind false e (inr (f, sat)) = rises_weaker (NotAfter d.value_in (path_keys q d v i.path)) Up (filter tidy rows) (λ r r' a b l.
          let pa = (from_filter tidy r rows a).1 in
          let pb = (from_filter tidy r' rows b).1 in
          let z = not_after_same d.value_in (value_at d) (path_keys q d v i.path) r r' (set (nothing q) t r) (set (nothing q) t r') (λ k m. at r k.column (v.by_own i.path lt is k m)) (λ k m. at r' k.column (v.by_own i.path lt is k m)) l in
          let sat' : Satisfies q (with_table 0 t) (path_keys q d v i.path) (ascending y) = subst (λ n. Satisfies q n (path_keys q d v i.path) (ascending y)) (sym (with_zero t)) sat in
          let w = one_key (value_at d) y (set (nothing q) t r) (set (nothing q) t r') (order_satisfied q d v (with_table 0 t) (path_keys q d v i.path) (ascending y) (set (nothing q) t r) (set (nothing q) t r') pa pb sat' z) in
          ap is_le (ap₂ rank (at r y hy) (at r' y hy)) ∙ w) (rises_filter (NotAfter d.value_in (path_keys q d v i.path)) tidy rows (rises_filter (NotAfter d.value_in (path_keys q d v i.path)) (λ r. is_opened d i.path (set (nothing q) t r)) (rows_along d i.path) (v.in_order i.path lt is)))

pub merges : (q : Space) (d : Stored) → Fits q d → (p : Plan) (g : ℕ) (i : Inner) → IsPlan q (Merge p g i) → merged q d (tables_of q p) g i (delivered q d p) ≡ delivered q d (Merge p g i)
merges q d v p g i (merge p' g' i' r (can, (x, y, (eqs, ne), hx, hy, sat, inner))) =
    let s = tables_of q p in
    let t = table_of i.path in
    let l = delivered q d p in
    let ext : List ℕ → List ℕ → List (List ℕ) = λ c rs. filter (passes q d (with_table s t)) (map (λ r. set c t r) rs) in
    let eq : List ℕ → ℕ → Bool = λ c r. d.holds g (set c t r) in
    let w = delivers q d v p r in
    let names = sides_are q d v s g i x y can.0 eqs ne hy in
    let up = rises_weaker (NotAfter (value_at d) (ascending x)) (λ a b. AtMost (value_at d x a) (value_at d x b)) l (λ a b j k h. one_key (value_at d) x a b h) (gives_satisfied q d v p r (ascending x) sat) in
    ap₂ (λ a b. merged_by (value_at d a) (d.value_in b) eq ext l (clean_rows q d g i)) names.1 names.0
    ∙ by_pointers (value_at d x) (d.value_in y) eq ext (IsOn q d s) (same q d v s g i x y can.0 eqs ne hy) (both q d v s g i x y can.0 eqs ne hy) l (clean_rows q d g i) (clean_rows q d g i) w.on up (clean_sorted q d v s g i x y can.0 eqs ne hy inner) (λ c j. refl)
    ∙ flat_same _ _ l (λ c j. narrowed (passes q d (with_table s t)) (λ n. set c t n) (eq c) (λ n. passes q d (with_table 0 t) (set (nothing q) t n)) (inner_rows q d g i) (λ n h. clean q d v s g i x y can.0 eqs ne hy c n (w.on c j) h))
