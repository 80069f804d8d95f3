-- The keys that begin with values stand together, and are found column by column.
use Rattle.std.proofs.Common.{◌≡◌, ◌≢◌, ◌∙◌, refl, sym, ap, ap₂, ℕ, zero, suc, ◌+◌, ◌<◌, ◌≤◌, List, [], ◌∷◌, ◌++◌, Bool, true, false, length, map, take, get_or, inl, inr, arith}
use Rattle.std.specs.Prelude.{◌&&◌, Option, Some, None, option_map, unwrap_or, IsTrue, ◌⊎◌}
use Rattle.std.specs.List.{AllByRecursion}
use Rattle.std.proofs.lemmas.Bool.{false≢true, cases_lt}
use Rattle.std.proofs.lemmas.Bool.Decides.{nat_tests}
use Rattle.std.proofs.lemmas.Cmp.{tied_itself}
use Rattle.std.specs.Ordering.{ordering_then, ordering_reverse, is_lt, is_eq, is_ge, is_le}
use Rattle.std.specs.declared.cmp.Ordering.{Ordering}
use Rattle.std.specs.declared.cmp.Ordering.TheVariants.{Less, Equal, Greater}
use Rattle.definitions.specs.Value.{Value, Null, Number, Text, rank, compare}
use Rattle.definitions.specs.Key.{key_rank}
use Rattle.definitions.specs.IndexRun.{Entry, Limit, Inclusive, AreRising, comes_before, is_true_of, begins_with, lies_in}
use Rattle.definitions.proofs.Ranking.{rank_total}
use Rattle.columns.specs.Cells.{CellList}
use Rattle.columns.specs.Starts.{value_in}
use Rattle.sqlvalue.specs.Meaning.{value_of}
use Rattle.sqlvalue.specs.declared.value.Value as code
use Rattle.std.proofs.lemmas.List.{length-map, length-take-le}
use Rattle.indexes.specs.Keys.{key_in, AreOfHeight}
use Rattle.indexes.specs.Runs.{entries_at}
use Rattle.indexes.specs.Stretches.{key_at, is_within, IsWithin, IsStretchOf}
use Rattle.indexes.specs.declared.key_column.Stretch.{Stretch}
use Rattle.indexes.proofs.KeyOrder.{row_rank, rows_ranked}
use Rattle.indexes.proofs.Entries.{key_there, length-entries_at}
use Rattle.indexes.proofs.Ranges.{lies}

-- ---- one value more

and_true : (b : Bool) → (b && true) ≡ b
and_true true = refl
and_true false = refl

and_and : (a b c : Bool) → (a && b && c) ≡ (a && (b && c))
and_and true b c = refl
and_and false b c = refl

pub begins_more : (vs : List Value) (v : Value) (columns : List CellList) (place : ℕ) (d : CellList) → length vs < length columns
    → begins_with (vs ++ v ∷ []) (key_in columns place) ≡ (begins_with vs (key_in columns place) && is_true_of is_eq (compare (value_in (get_or columns (length vs) d) place) v))
begins_more [] v [] place d h = absurd (omega (arith, h))
begins_more [] v (c ∷ cs) place d h = and_true (is_true_of is_eq (compare (value_in c place) v))
begins_more (u ∷ us) v [] place d h = absurd (omega (arith, h))
begins_more (u ∷ us) v (c ∷ cs) place d h =
    let first = is_true_of is_eq (compare (value_in c place) u) in
    ap (λ b. first && b) (begins_more us v cs place d (omega (arith, h))) ∙ sym (assoc first (begins_with us (key_in cs place)) _)
  where
    assoc : (a b c : Bool) → ((a && b) && c) ≡ (a && (b && c))
    assoc true b c = refl
    assoc false b c = refl

pub lies_behind : (vs : List Value) (low high : Limit) (columns : List CellList) (place : ℕ) (d : CellList) → length vs < length columns
    → lies_in vs low high (key_in columns place) ≡ (begins_with vs (key_in columns place) && lies low high (value_in (get_or columns (length vs) d) place))
lies_behind [] low high [] place d h = absurd (omega (arith, h))
lies_behind [] low high (c ∷ cs) place d h = refl
lies_behind (u ∷ us) low high [] place d h = absurd (omega (arith, h))
lies_behind (u ∷ us) low high (c ∷ cs) place d h =
    let first = is_true_of is_eq (compare (value_in c place) u) in
    ap (λ b. first && b) (lies_behind us low high cs place d (omega (arith, h))) ∙ sym (assoc first (begins_with us (key_in cs place)) _)
  where
    assoc : (a b c : Bool) → ((a && b) && c) ≡ (a && (b && c))
    assoc true b c = refl
    assoc false b c = refl

ge_le : (o : Ordering) → (is_ge o && is_le o) ≡ is_eq o
ge_le Less = refl
ge_le Equal = refl
ge_le Greater = refl

by_both : (o : Option Ordering) → (unwrap_or (option_map is_ge o) false && unwrap_or (option_map is_le o) false) ≡ unwrap_or (option_map is_eq o) false
by_both None = refl
by_both (Some o) = ge_le o

-- a value is equal to another where it lies from that one to that one
pub equal_by_limits : (cell v : Value) → lies (Inclusive v) (Inclusive v) cell ≡ is_true_of is_eq (compare cell v)
equal_by_limits Null v = refl
equal_by_limits (Number u s) v = by_both (compare (Number u s) v)
equal_by_limits (Text t) v = by_both (compare (Text t) v)

-- ---- keys that begin alike are in the order of what follows

less_or_tied : (o p : Ordering) → is_lt (ordering_then o p) ≡ true → o ≢ Greater
less_or_tied Less p h e = absurd cc
less_or_tied Equal p h e = absurd cc
less_or_tied Greater p h e = false≢true h

pub rising_at : (es : List Entry) (i j : ℕ) (d : Entry) → AreRising es → i < j → j < length es → IsTrue (comes_before (get_or es i d) (get_or es j d))
rising_at [] i j d r h l = absurd (omega (arith, l))
rising_at (e ∷ es) i zero d r h l = absurd (omega (arith, h))
rising_at (e ∷ es) zero (suc j) d (first, r) h l = each es j first (omega (arith, l))
  where
    each : (xs : List Entry) (k : ℕ) → AllByRecursion (λ other. IsTrue (comes_before e other)) xs → k < length xs → IsTrue (comes_before e (get_or xs k d))
    each [] k all m = absurd (omega (arith, m))
    each (x ∷ xs) zero (here, rest) m = here
    each (x ∷ xs) (suc k) (here, rest) m = each xs k rest (omega (arith, m))
rising_at (e ∷ es) (suc i) (suc j) d (first, r) h l = rising_at es i j d r (omega (arith, h)) (omega (arith, l))

key_of_get : (es : List Entry) (i : ℕ) (d : Entry) → i < length es → (get_or es i d).key ≡ key_at es i
key_of_get [] i d h = absurd (omega (arith, h))
key_of_get (e ∷ es) zero d h = refl
key_of_get (e ∷ es) (suc i) d h = key_of_get es i d (omega (arith, h))

then_greater : (o p : Ordering) → ordering_then o p ≢ Greater → o ≢ Greater
then_greater Less p n e = absurd cc
then_greater Equal p n e = absurd cc
then_greater Greater p n e = n refl

equal_there : (o : Option Ordering) (d : Ordering) → unwrap_or (option_map is_eq o) false ≡ true → unwrap_or o d ≡ Equal
equal_there None d h = absurd (false≢true h)
equal_there (Some Less) d h = absurd (false≢true h)
equal_there (Some Equal) d h = refl
equal_there (Some Greater) d h = absurd (false≢true h)

both : (a b : Bool) → (a && b) ≡ true → (a ≡ true) × (b ≡ true)
both true b h = (refl, h)
both false b h = absurd (false≢true h)

alike : (a b v : Value) → is_true_of is_eq (compare a v) ≡ true → is_true_of is_eq (compare b v) ≡ true → rank a b ≡ Equal
alike a b v h l =
    let e : rank a v ≡ Equal = equal_there (compare a v) _ h in
    let f : rank b v ≡ Equal = equal_there (compare b v) _ l in
    rank_total.congr a v b e ∙ rank_total.antisymm v b ∙ ap ordering_reverse f

behind : (vs : List Value) (columns : List CellList) (i j : ℕ) (d : CellList) → length vs < length columns → begins_with vs (key_in columns i) ≡ true → begins_with vs (key_in columns j) ≡ true → row_rank columns i j ≢ Greater
    → rank (value_in (get_or columns (length vs) d) i) (value_in (get_or columns (length vs) d) j) ≢ Greater
behind [] [] i j d h p q n = absurd (omega (arith, h))
behind [] (c ∷ cs) i j d h p q n = then_greater (rank (value_in c i) (value_in c j)) (row_rank cs i j) n
behind (v ∷ vs) [] i j d h p q n = absurd (omega (arith, h))
behind (v ∷ vs) (c ∷ cs) i j d h p q n =
    let a = both (is_true_of is_eq (compare (value_in c i) v)) (begins_with vs (key_in cs i)) p in
    let b = both (is_true_of is_eq (compare (value_in c j) v)) (begins_with vs (key_in cs j)) q in
    let e = alike (value_in c i) (value_in c j) v a.0 b.0 in
    behind vs cs i j d (omega (arith, h)) a.1 b.1 (λ g. n (ap (λ o. ordering_then o (row_rank cs i j)) e ∙ g))

pub height_at : (columns : List CellList) {rows : ℕ} (place : ℕ) (d : CellList) → AreOfHeight rows columns → place < length columns → length (get_or columns place d).values ≡ rows
height_at [] place d all h = absurd (omega (arith, h))
height_at (c ∷ cs) zero d (first, rest) h = first
height_at (c ∷ cs) (suc place) d (first, rest) h = height_at cs place d rest (omega (arith, h))

module _ (columns : List CellList) (rows : List ℕ) (entries : List Entry) (view : entries_at columns 0 rows ≡ entries) (rising : AreRising entries) where
  pub in_order : (i j : ℕ) → i ≤ j → j < length entries → row_rank columns i j ≢ Greater
  in_order i j h l e = of (cases_lt i j)
    where
      d : Entry
      d = record { row = 0; key = [] }

      of : (i < j) ⊎ (j ≤ i) → ⊥
      of (inl k) =
          let a : (get_or entries i d).key ≡ key_in columns i = key_of_get entries i d (omega (arith, k, l)) ∙ key_there columns rows entries i view (omega (arith, k, l)) in
          let b : (get_or entries j d).key ≡ key_in columns j = key_of_get entries j d l ∙ key_there columns rows entries j view l in
          less_or_tied (key_rank (get_or entries i d).key (get_or entries j d).key) _ (rising_at entries i j d rising k l) (ap₂ key_rank a b ∙ e)
      of (inr k) =
          let same : i ≡ j = omega (arith, h, k) in
          let t : row_rank columns i j ≡ Equal = rw same (tied_itself (rows_ranked columns) j) in
          absurd (equal_not_greater (sym t ∙ e))
        where
          equal_not_greater : Equal ≡ Greater → ⊥
          equal_not_greater f = absurd cc

  module _ (vs : List Value) (s : Stretch) (d : CellList) (there : length vs < length columns) (is : IsStretchOf vs entries s) where
    key_is : (place : ℕ) → place < length entries → key_at entries place ≡ key_in columns place
    key_is place h = key_there columns rows entries place view h

    begins_there : (place : ℕ) → s.from ≤ place → place < s.to → begins_with vs (key_in columns place) ≡ true
    begins_there place h l =
        let i = is.inside in
        let m : place < length entries = omega (arith, l, i) in
        let e : is_within s place ≡ true = grind (arith, nat_tests) in
        ap (begins_with vs) (sym (key_is place m)) ∙ is.exact place m ∙ e

    pub stretch_ordered : (i j : ℕ) → s.from ≤ i → i ≤ j → j < s.to → rank (value_in (get_or columns (length vs) d) i) (value_in (get_or columns (length vs) d) j) ≢ Greater
    stretch_ordered i j h l k =
        let n = is.inside in
        behind vs columns i j d there (begins_there i h (omega (arith, l, k))) (begins_there j (omega (arith, h, l)) k) (in_order i j l (omega (arith, k, n)))

    -- a part of the stretch, told by a test of the next value
    narrowed : (r : Stretch) (test : Value → Bool) → IsWithin r s → ((place : ℕ) → s.from ≤ place → place < s.to → is_within r place ≡ test (value_in (get_or columns (length vs) d) place))
        → (place : ℕ) → place < length entries → (begins_with vs (key_in columns place) && test (value_in (get_or columns (length vs) d) place)) ≡ is_within r place
    narrowed r test w exact place h = of (cases_lt place s.from) (cases_lt place s.to)
      where
        at : begins_with vs (key_in columns place) ≡ is_within s place
        at = ap (begins_with vs) (sym (key_is place h)) ∙ is.exact place h

        of : (place < s.from) ⊎ (s.from ≤ place) → (place < s.to) ⊎ (s.to ≤ place) → (begins_with vs (key_in columns place) && test (value_in (get_or columns (length vs) d) place)) ≡ is_within r place
        of (inl k) q =
            let a : is_within s place ≡ false = grind (arith, nat_tests) in
            let f = w.from in let b : is_within r place ≡ false = grind (arith, nat_tests) in
            ap (λ x. x && test (value_in (get_or columns (length vs) d) place)) (at ∙ a) ∙ sym b
        of (inr k) (inl q) =
            let a : is_within s place ≡ true = grind (arith, nat_tests) in
            ap (λ x. x && test (value_in (get_or columns (length vs) d) place)) (at ∙ a) ∙ sym (exact place k q)
        of (inr k) (inr q) =
            let a : is_within s place ≡ false = grind (arith, nat_tests) in
            let f = w.to in let b : is_within r place ≡ false = grind (arith, nat_tests) in
            ap (λ x. x && test (value_in (get_or columns (length vs) d) place)) (at ∙ a) ∙ sym b

    pub stretch_more : (v : Value) (r : Stretch) → IsWithin r s
        → ((place : ℕ) → s.from ≤ place → place < s.to → is_within r place ≡ lies (Inclusive v) (Inclusive v) (value_in (get_or columns (length vs) d) place)) → IsStretchOf (vs ++ v ∷ []) entries r
    stretch_more v r w exact = record {
      forward = w.forward;
      inside = let a = w.to in let b = is.inside in omega (arith, a, b);
      exact = λ place h. ap (begins_with (vs ++ v ∷ [])) (key_is place h) ∙ begins_more vs v columns place d there
          ∙ ap (λ b. begins_with vs (key_in columns place) && b) (sym (equal_by_limits (value_in (get_or columns (length vs) d) place) v))
          ∙ narrowed r (lies (Inclusive v) (Inclusive v)) w exact place h;
    }

    pub stretch_range : (low high : Limit) (r : Stretch) → IsWithin r s
        → ((place : ℕ) → s.from ≤ place → place < s.to → is_within r place ≡ lies low high (value_in (get_or columns (length vs) d) place))
        → (place : ℕ) → place < length entries → lies_in vs low high (key_at entries place) ≡ is_within r place
    stretch_range low high r w exact place h =
        ap (lies_in vs low high) (key_is place h) ∙ lies_behind vs low high columns place d there ∙ narrowed r (lies low high) w exact place h

  -- the same of a column that was read
  module _ (vs : List Value) (s : Stretch) (place : ℕ) (x : CellList) (there : place < length columns) (at : length vs ≡ place) (read : x ≡ get_or columns place x) (is : IsStretchOf vs entries s) where
    column_is : get_or columns (length vs) x ≡ x
    column_is = ap (λ p. get_or columns p x) at ∙ sym read

    within : length vs < length columns
    within = rw at there

    pub ordered_at : (i j : ℕ) → s.from ≤ i → i ≤ j → j < s.to → rank (value_in x i) (value_in x j) ≢ Greater
    ordered_at i j h l k e = stretch_ordered vs s x within is i j h l k (ap₂ (λ a b. rank (value_in a i) (value_in b j)) column_is column_is ∙ e)

    pub more_at : (v : Value) (ws : List Value) (r : Stretch) → ws ≡ vs ++ v ∷ [] → IsWithin r s → ((p : ℕ) → s.from ≤ p → p < s.to → is_within r p ≡ lies (Inclusive v) (Inclusive v) (value_in x p)) → IsStretchOf ws entries r
    more_at v ws r e w exact = rw e (stretch_more vs s x within is v r w (λ p h l. exact p h l ∙ ap (λ c. lies (Inclusive v) (Inclusive v) (value_in c p)) (sym column_is)))

    pub range_at : (low high : Limit) (r : Stretch) → IsWithin r s → ((p : ℕ) → s.from ≤ p → p < s.to → is_within r p ≡ lies low high (value_in x p))
        → (p : ℕ) → p < length entries → lies_in vs low high (key_at entries p) ≡ is_within r p
    range_at low high r w exact = stretch_range vs s x within is low high r w (λ p h l. exact p h l ∙ ap (λ c. lies low high (value_in c p)) (sym column_is))

    pub inside_at : AreOfHeight (length rows) columns → s.to ≤ length x.values
    inside_at tall =
        let n : length entries ≡ length rows = ap length (sym view) ∙ length-entries_at columns 0 rows in
        let h : length x.values ≡ length rows = ap (λ (c : CellList). length c.values) read ∙ height_at columns place x tall there in
        let i = is.inside in
        omega (arith, n, h, i)

-- one value more is read
pub values_more : (xs : List code.Value) (place : ℕ) (x : code.Value) → place < length xs → x ≡ get_or xs place x → map value_of (take (place + 1) xs) ≡ map value_of (take place xs) ++ value_of x ∷ []
values_more [] place x h e = absurd (omega (arith, h))
values_more (y ∷ ys) zero x h e = rw e refl
values_more (y ∷ ys) (suc place) x h e = let n : suc place + 1 ≡ suc (place + 1) = omega arith in rw n (ap (λ vs. value_of y ∷ vs) (values_more ys place x (omega (arith, h)) e))

pub length_taken : (xs : List code.Value) (place : ℕ) → place ≤ length xs → length (map value_of (take place xs)) ≡ place
length_taken xs place h = length-map (take place xs) value_of ∙ length-take-le place xs h

-- at the beginning, all keys begin with no values
pub whole : (entries : List Entry) (stretch : Stretch) → stretch.from ≡ 0 → stretch.to ≡ length entries → IsStretchOf [] entries stretch
whole entries stretch e f = record { forward = omega (arith, e, f); inside = omega (arith, f); exact = λ place h. grind (arith, nat_tests, e, f) }
