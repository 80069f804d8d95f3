-- Rows of combinations, in whatever order they come, and in the order that a block requires.
use Rattle.std.proofs.Common.{◌≡◌, ◌∙◌, inl, inr, refl, sym, ap, ap₂, subst, ℕ, zero, suc, ◌+◌, ◌<◌, List, [], ◌∷◌, ◌++◌, Bool, true, false, cond, Option, Some, None, is_some, get_or, slice_get, length, map, arith, true≢false}
use Rattle.std.specs.Prelude.{◌&&◌, flat_map, filter_map, option_and_then, option_map, unwrap_or, Contains, IsPermutation, IsSorted}
use Rattle.std.specs.List.{cons_option, AllByRecursion, list_all}
use Rattle.std.specs.Ordering.{ordering_then, ordering_reverse, is_le, is_lt}
use Rattle.std.specs.declared.cmp.Ordering.{Ordering}
use Rattle.std.specs.declared.cmp.Ordering.TheVariants.{Less, Equal, Greater}
use Rattle.std.proofs.lemmas.List.Sorted.{Contains-permutation, IsPermutation-map, IsPermutation-sym, IsPermutation-trans}
use Rattle.definitions.specs.Value.{Value, Null, rank}
use Rattle.definitions.specs.Table.{Row}
use Rattle.definitions.specs.Arithmetic.{Raise, Meaning, Is, Raises}
use Rattle.definitions.specs.Estimates.Orders.{required_of, sort_key, column_of_item}
use Rattle.definitions.specs.Estimates.Sides.{column_of}
use Rattle.definitions.specs.Plans.Order.{ascending, BlockColumn, SortKey}
use Rattle.definitions.specs.Queries.BoundBlock.{ValueExpr, Column, Parameter, Numeral, String, Signed, Chain, AggregateValue, Subquery, Item, OrderKey, Block}
use Rattle.definitions.specs.Queries.Evaluation.{Combination, cell, on_one, value}
use Rattle.definitions.specs.Queries.Combinations.{Context, at, raises_of, raises_of_where, kept}
use Rattle.definitions.specs.Queries.Grouping.{results, unless_raised, all_results, groups_of}
use Rattle.definitions.specs.Queries.Answer.{row_of_combination, row_of_group, is_grouped, distinct_rows, answer_after_where, block_answer}
use Rattle.definitions.specs.Queries.Outcomes.{Allowed, Rows, Exception, directed, row_order}
use Rattle.definitions.proofs.Ranking.{rank_total}
use Rattle.definitions_execution.specs.BlockLaws.{cell_of}
use Rattle.definitions_execution.specs.Lists.{In, Rises}
use Rattle.definitions_execution.specs.RowOrder.{ranked_by, NotAfter}
use Rattle.definitions_execution.specs.TypedCombinations.{IsTypedCombination}
use Rattle.definitions_answers.specs.Shapes.{Shape, HasShapes}
use Rattle.definitions_answers.specs.PlainRows.{values_at, plain_row, plain_raises, HavePlainShapes, CombinationsTell, RequiredOrderIsRowOrder}
use Rattle.definitions_answers.proofs.Left.{repeats_in_any_order, repeats_keep_order}
use Rattle.definitions_answers.proofs.Reordered.{flat_map_arranged, nothing_arranged}
use Rattle.definitions_answers.proofs.GroupRows.{none_first, none_second}

raises_kept : {X Y : Type 0} (f : X → Y) (rs : List Raise) (x : X) → raises_of (on_one f (unless_raised rs x)) ≡ rs
raises_kept f [] x = refl
raises_kept f (r ∷ rs) x = refl

told_raise : (f : List (List Row) → List Row) (rs : List Raise) (x : List (List Row)) (keys : List OrderKey) (e : Raise) → Contains rs e → Allowed (on_one f (unless_raised rs x)) keys (Exception e)
told_raise f [] x keys e h = absurd (omega (arith, h.1))
told_raise f (r ∷ rs) x keys e h = h

abbrev keyed : OrderKey → BlockColumn → SortKey
keyed key column = record { column = column; descending = key.descending }

module _ (context : Context) (b : Block) where
  abbrev Typed : Combination → Type 0
  Typed = IsTypedCombination context.database b

  abbrev raised : Combination → List Raise
  raised c = flat_map raises_of (values_at context b c)

  abbrev one : Combination → Meaning (List Row)
  one = row_of_combination context b

  each_raises : (cs : List Combination) → flat_map raises_of (map one cs) ≡ plain_raises context b cs
  each_raises [] = refl
  each_raises (c ∷ cs) = ap₂ (λ rs qs. rs ++ qs) (raises_kept (λ y. y ∷ []) (raised c) (plain_row context b c)) (each_raises cs)

  each_result : (cs : List Combination) → plain_raises context b cs ≡ [] → flat_map (λ ys. ys) (results (map one cs)) ≡ map (plain_row context b) cs
  each_result [] e = refl
  each_result (c ∷ cs) e =
      let own : raised c ≡ [] = none_first (raised c) (plain_raises context b cs) e in
      ap (λ rs. flat_map (λ ys. ys) (results (on_one (λ y. y ∷ []) (unless_raised rs (plain_row context b c)) ∷ map one cs))) own ∙ ap (λ ys. plain_row context b c ∷ ys) (each_result cs (none_second (raised c) (plain_raises context b cs) e))

  shaped : (shapes : List Shape) → HavePlainShapes context b shapes → (cs : List Combination) → AllByRecursion Typed cs → plain_raises context b cs ≡ [] → AllByRecursion (HasShapes shapes) (map (plain_row context b) cs)
  shaped shapes h [] t e = tt
  shaped shapes h (c ∷ cs) t e = (h c t.0 (none_first (raised c) (plain_raises context b cs) e), shaped shapes h cs t.1 (none_second (raised c) (plain_raises context b cs) e))

  left_alike : (d : Bool) (shapes : List Shape) (rows others : List Row) → AllByRecursion (HasShapes shapes) rows → IsPermutation rows others → IsPermutation (distinct_rows d rows) (distinct_rows d others)
  left_alike true shapes rows others h p = repeats_in_any_order shapes rows others h p
  left_alike false shapes rows others h p = p

  abbrev left_of : List (List Row) → List Row
  left_of lists = distinct_rows b.distinct (flat_map (λ rows. rows) lists)

  abbrev all : List Combination
  all = kept context b

  answer_is : is_grouped b ≡ false → raises_of_where context b ≡ [] → block_answer context b ≡ on_one left_of (unless_raised (plain_raises context b all) (results (map one all)))
  answer_is plain quiet =
      ap (λ rs. answer_after_where rs context b) quiet
      ∙ ap (λ t. on_one left_of (all_results (cond t (map (row_of_group context b) (groups_of b.groups all)) (map one all)))) plain
      ∙ ap (λ rs. on_one left_of (unless_raised rs (results (map one all)))) (each_raises all)

  told : (cs : List Combination) (keys : List OrderKey) (shapes : List Shape) → is_grouped b ≡ false → raises_of_where context b ≡ [] → AllByRecursion Typed all → HavePlainShapes context b shapes → IsPermutation all cs
      → ((raise : Raise) → Contains (plain_raises context b cs) raise → Allowed (block_answer context b) keys (Exception raise))
      × ((rows : List Row) → plain_raises context b cs ≡ [] → IsPermutation (distinct_rows b.distinct (map (plain_row context b) cs)) rows → IsSorted (row_order keys) rows → Allowed (block_answer context b) keys (Rows rows))
  told cs keys shapes plain quiet typed has p =
      let is = answer_is plain quiet in
      let raises : IsPermutation (plain_raises context b all) (plain_raises context b cs) = flat_map_arranged raised all cs p in (
        λ e h. subst (λ m. Allowed m keys (Exception e)) (sym is)
            (told_raise left_of (plain_raises context b all) (results (map one all)) keys e (Contains-permutation (plain_raises context b cs) (plain_raises context b all) e (IsPermutation-sym (plain_raises context b all) (plain_raises context b cs) raises) h)),
        λ rows none q sorted.
            let none' : plain_raises context b all ≡ [] = nothing_arranged (plain_raises context b cs) (plain_raises context b all) (IsPermutation-sym (plain_raises context b all) (plain_raises context b cs) raises) none in
            let is' : block_answer context b ≡ Is (distinct_rows b.distinct (map (plain_row context b) all)) =
            is ∙ ap (λ rs. on_one left_of (unless_raised rs (results (map one all)))) none' ∙ ap (λ l. Is (distinct_rows b.distinct l)) (each_result all none') in
            let left = left_alike b.distinct shapes (map (plain_row context b) all) (map (plain_row context b) cs) (shaped shapes has all typed none') (IsPermutation-map (plain_row context b) all cs p) in
            subst (λ m. Allowed m keys (Rows rows)) (sym is') (IsPermutation-trans (distinct_rows b.distinct (map (plain_row context b) all)) (distinct_rows b.distinct (map (plain_row context b) cs)) rows left q, sorted),
      )

  -- ---- in the order that is required

  quiet_result : (ms : List (Meaning Value)) (k : ℕ) (m : Meaning Value) (v : Value) → flat_map raises_of ms ≡ [] → slice_get ms k ≡ Some m → m ≡ Is v → get_or (results ms) k Null ≡ v
  quiet_result [] k m v e s i = absurd (true≢false (sym (ap is_some s)))
  quiet_result (Is w ∷ ms) zero m v e s i = ap (λ o. inside (unwrap_or o m)) s ∙ ap inside i
    where
      inside : Meaning Value → Value
      inside (Is u) = u
      inside (Raises r rs) = Null
  quiet_result (Is w ∷ ms) (suc k) m v e s i = quiet_result ms k m v e s i
  quiet_result (Raises r rs ∷ ms) k m v e s i = absurd cc

  get_map : {X Y : Type 0} (f : X → Y) (xs : List X) (k : ℕ) (x : X) → slice_get xs k ≡ Some x → slice_get (map f xs) k ≡ Some (f x)
  get_map f [] k x e = absurd (true≢false (sym (ap is_some e)))
  get_map f (y ∷ ys) zero x e = ap (λ o. Some (f (unwrap_or o y))) e
  get_map f (y ∷ ys) (suc k) x e = get_map f ys k x e

  column_value : (e : ValueExpr) (c : Combination) (column : BlockColumn) → column_of e ≡ Some column → value (at context c) e ≡ Is (cell c column)
  column_value (Column own type) c column h = ap (λ o. Is (cell c (unwrap_or o own))) h
  column_value (Parameter between own type) c column h = absurd (true≢false (sym (ap is_some h)))
  column_value (Numeral units digits scale) c column h = absurd (true≢false (sym (ap is_some h)))
  column_value (String codes) c column h = absurd (true≢false (sym (ap is_some h)))
  column_value (Signed minus operand) c column h = absurd (true≢false (sym (ap is_some h)))
  column_value (Chain first others) c column h = absurd (true≢false (sym (ap is_some h)))
  column_value (AggregateValue number type) c column h = absurd (true≢false (sym (ap is_some h)))
  column_value (Subquery block type) c column h = absurd (true≢false (sym (ap is_some h)))

  item_value : (k : ℕ) (c : Combination) (column : BlockColumn) → raised c ≡ [] → column_of_item b.items k ≡ Some column → get_or (plain_row context b c) k Null ≡ cell c column
  item_value k c column quiet h = step (slice_get b.items k) refl h
    where
      step : (o : Option Item) → slice_get b.items k ≡ o → option_and_then (λ (i : Item). column_of i.value) o ≡ Some column → get_or (plain_row context b c) k Null ≡ cell c column
      step None e g = absurd (true≢false (sym (ap is_some g)))
      step (Some i) e g = quiet_result (values_at context b c) k (value (at context c) i.value) (cell c column) quiet (get_map (λ (j : Item). value (at context c) j.value) b.items k i e) (column_value i.value c column g)

  same_order : (keys : List OrderKey) (c d : Combination) → raised c ≡ [] → raised d ≡ [] → list_all (λ key. is_some (sort_key b.items key)) keys ≡ true
      → row_order keys (plain_row context b c) (plain_row context b d) ≡ ranked_by cell_of (filter_map (sort_key b.items) keys) c d
  same_order [] c d q r h = refl
  same_order (key ∷ keys) c d q r h = step (column_of_item b.items key.item) refl h (λ t. same_order keys c d q r t)
    where
      step : (o : Option BlockColumn) → column_of_item b.items key.item ≡ o
          → (is_some (option_map (keyed key) o) && list_all (λ k. is_some (sort_key b.items k)) keys) ≡ true
          → (list_all (λ k. is_some (sort_key b.items k)) keys ≡ true → row_order keys (plain_row context b c) (plain_row context b d) ≡ ranked_by cell_of (filter_map (sort_key b.items) keys) c d)
          → row_order (key ∷ keys) (plain_row context b c) (plain_row context b d) ≡ ranked_by cell_of (filter_map (sort_key b.items) (key ∷ keys)) c d
      step None e t f = absurd (true≢false (sym t))
      step (Some column) e t f =
          ap₂ ordering_then (ap₂ (λ v w. directed key.descending (rank v w)) (item_value key.item c column q e) (item_value key.item d column r e)) (f t)
          ∙ sym (ap (λ o. ranked_by cell_of (cons_option (option_map (keyed key) o) (filter_map (sort_key b.items) keys)) c d) e)

  one_quiet : (cs : List Combination) (c : Combination) → plain_raises context b cs ≡ [] → In c cs → raised c ≡ []
  one_quiet [] c e i = absurd i
  one_quiet (d ∷ ds) c e (inl same) = subst (λ x. raised x ≡ []) same (none_first (raised d) (plain_raises context b ds) e)
  one_quiet (d ∷ ds) c e (inr i) = one_quiet ds c (none_second (raised d) (plain_raises context b ds) e) i

  abbrev StandsBefore : Row → Row → Type 0
  StandsBefore r s = is_le (row_order b.order r s) ≡ true

  was_mapped : (cs : List Combination) (P : Row → Type 0) → ((c : Combination) → In c cs → P (plain_row context b c)) → (r : Row) → In r (map (plain_row context b) cs) → P r
  was_mapped [] P f r i = absurd i
  was_mapped (c ∷ cs) P f r (inl e) = subst P e (f c (inl refl))
  was_mapped (c ∷ cs) P f r (inr i) = was_mapped cs P (λ d j. f d (inr j)) r i

  rows_rise : (cs : List Combination) → list_all (λ key. is_some (sort_key b.items key)) b.order ≡ true → plain_raises context b cs ≡ [] → Rises (NotAfter cell_of (filter_map (sort_key b.items) b.order)) cs → Rises StandsBefore (map (plain_row context b) cs)
  rows_rise [] each e h = tt
  rows_rise (c ∷ cs) each e h =
      let own : raised c ≡ [] = none_first (raised c) (plain_raises context b cs) e in
      let rest : plain_raises context b cs ≡ [] = none_second (raised c) (plain_raises context b cs) e in
      (was_mapped cs (StandsBefore (plain_row context b c)) (λ d i. ap is_le (same_order b.order c d own (one_quiet cs d rest i) each) ∙ h.0 d i), rows_rise cs each rest h.1)

-- ---- rows that rise are sorted

then_reversed : (a c : Ordering) → ordering_reverse (ordering_then a c) ≡ ordering_then (ordering_reverse a) (ordering_reverse c)
then_reversed Less c = refl
then_reversed Equal c = refl
then_reversed Greater c = refl

directed_reversed : (d : Bool) (o : Ordering) → directed d (ordering_reverse o) ≡ ordering_reverse (directed d o)
directed_reversed true o = refl
directed_reversed false o = refl

row_antisymm : (keys : List OrderKey) (a c : Row) → row_order keys a c ≡ ordering_reverse (row_order keys c a)
row_antisymm [] a c = refl
row_antisymm (key ∷ keys) a c =
    let d = key.descending in
    let first : directed d (rank (get_or a key.item Null) (get_or c key.item Null)) ≡ ordering_reverse (directed d (rank (get_or c key.item Null) (get_or a key.item Null))) =
    ap (directed d) (rank_total.antisymm (get_or a key.item Null) (get_or c key.item Null)) ∙ directed_reversed d (rank (get_or c key.item Null) (get_or a key.item Null)) in
    ap₂ ordering_then first (row_antisymm keys a c) ∙ sym (then_reversed (directed d (rank (get_or c key.item Null) (get_or a key.item Null))) (row_order keys c a))

not_back : (o : Ordering) → is_le o ≡ true → is_lt (ordering_reverse o) ≡ false
not_back Less e = refl
not_back Equal e = refl
not_back Greater e = absurd (true≢false (sym e))

rises_at : {X : Type 0} (R : X → X → Type 0) (xs : List X) → Rises R xs → (k : ℕ) (d : X) → suc k < length xs → R (get_or xs k d) (get_or xs (suc k) d)
rises_at R [] r k d h = absurd (omega (arith, h))
rises_at R (x ∷ []) r k d h = absurd (omega (arith, h))
rises_at R (x ∷ y ∷ ys) r zero d h = r.0 y (inl refl)
rises_at R (x ∷ y ∷ ys) r (suc k) d h = rises_at R (y ∷ ys) r.1 k d (omega (arith, h))

pub rises_sorted : (keys : List OrderKey) (rows : List Row) → Rises (λ r s. is_le (row_order keys r s) ≡ true) rows → IsSorted (row_order keys) rows
rises_sorted keys rows r k d low high =
    let n : suc k ≡ k + 1 = omega arith in
    let l : suc k < length rows = omega (arith, high) in
    ap (λ i. is_lt (row_order keys (get_or rows i d) (get_or rows k d))) (sym n)
    ∙ ap is_lt (row_antisymm keys (get_or rows (suc k) d) (get_or rows k d))
    ∙ not_back (row_order keys (get_or rows k d) (get_or rows (suc k) d)) (rises_at (λ a c. is_le (row_order keys a c) ≡ true) rows r k d l)

distinct_rise : (keys : List OrderKey) (distinct : Bool) (rows : List Row) → Rises (λ r s. is_le (row_order keys r s) ≡ true) rows → Rises (λ r s. is_le (row_order keys r s) ≡ true) (distinct_rows distinct rows)
distinct_rise keys true rows h = repeats_keep_order (λ r s. is_le (row_order keys r s)) rows h
distinct_rise keys false rows h = h

pub combinations_tell : CombinationsTell
combinations_tell context b cs keys shapes plain quiet typed has p = told context b cs keys shapes plain quiet typed has p

required_is : (b : Block) → is_grouped b ≡ false → list_all (λ key. is_some (sort_key b.items key)) b.order ≡ true → required_of b ≡ filter_map (sort_key b.items) b.order
required_is b plain all =
    ap (λ t. cond t (flat_map ascending b.groups) (cond (list_all (λ key. is_some (sort_key b.items key)) b.order) (filter_map (sort_key b.items) b.order) [])) plain
    ∙ ap (λ t. cond t (filter_map (sort_key b.items) b.order) []) all

pub required_order_is_row_order : RequiredOrderIsRowOrder
required_order_is_row_order context b cs plain all quiet h =
    rises_sorted b.order (distinct_rows b.distinct (map (plain_row context b) cs))
    (distinct_rise b.order b.distinct (map (plain_row context b) cs) (rows_rise context b cs all quiet (subst (λ o. Rises (NotAfter cell_of o) cs) (required_is b plain all) h)))
