-- Rows put among others in the order of their keys.
use Rattle.std.proofs.Common.{◌≡◌, ◌≢◌, ◌∙◌, refl, sym, ap, ℕ, zero, suc, ◌+◌, ◌-◌, ◌<◌, ◌≤◌, List, [], ◌∷◌, ◌++◌, Bool, true, false, length, map, take, drop, get_or, nat_eq, inl, inr, arith}
use Rattle.std.specs.Prelude.{IsPermutation, IsTrue, not, ◌⊎◌, if◌then◌else◌}
use Rattle.std.specs.Int.{from_bool}
use Rattle.std.specs.List.{AllByRecursion}
use Rattle.std.proofs.lemmas.Bool.{false≢true, cases_lt}
use Rattle.std.proofs.lemmas.List.{append_assoc, get_or_append_left, take-append-drop, take_more, length-append}
use Rattle.std.proofs.lemmas.List.Sorted.{IsPermutation-middle, IsPermutation-sym, IsPermutation-push_more}
use Rattle.std.proofs.lemmas.Bool.Decides.{nat_tests}
use Rattle.std.specs.Ordering.{ordering_reverse, is_eq, is_lt}
use Rattle.std.specs.declared.cmp.Ordering.{Ordering}
use Rattle.std.specs.declared.cmp.Ordering.TheVariants.{Less, Equal, Greater}
use Rattle.definitions.specs.IndexRun.{AreRising, comes_before}
use Rattle.definitions.proofs.Repeats.{all_append}
use Rattle.columns.specs.Cells.{CellList}
use Rattle.columns.specs.Starts.{AreOrdered, Splits}
use Rattle.indexes.specs.Keys.{count_keys, entry_in}
use Rattle.indexes.specs.Merging.{AreEarlier, begins_anew, is_behind}
use Rattle.indexes.proofs.FirstRepeated.{before_is, tied_rows}
use Rattle.indexes.proofs.IndexCounting.{keys_at_most, one_counted}
use Rattle.indexes.proofs.KeyOrder.{row_order, row_rank, rows_ordered, rows_ranked}
use Rattle.indexes.proofs.SortedRows.{stands_before, comes_first}

is_less : (o : Ordering) → is_lt o ≡ true → o ≡ Less
is_less Less e = refl
is_less Equal e = absurd (false≢true e)
is_less Greater e = absurd (false≢true e)

is_not : (b : Bool) → not b ≡ true → b ≡ false
is_not false e = refl
is_not true e = absurd (false≢true e)

is_so : (b : Bool) → not b ≡ false → b ≡ true
is_so true e = refl
is_so false e = absurd (false≢true (sym e))

module _ (columns : List CellList) where
  transitive : (a b c : ℕ) → stands_before columns a b ≡ true → stands_before columns b c ≡ true → stands_before columns a c ≡ true
  transitive a b c h l = ap is_lt ((rows_ordered columns).trans a b c (is_less (row_order columns a b) h) (is_less (row_order columns b c) l))

  -- ---- what rises

  before_at : (rows : List ℕ) (i j : ℕ) → AreRising (map (entry_in columns) rows) → i < j → j < length rows → stands_before columns (get_or rows i 0) (get_or rows j 0) ≡ true
  before_at [] i j r h l = absurd (omega (arith, l))
  before_at (x ∷ xs) i zero r h l = absurd (omega (arith, h))
  before_at (x ∷ xs) zero (suc j) r h l = each xs j r.0 (omega (arith, l))
    where
      each : (ys : List ℕ) (k : ℕ) → AllByRecursion (λ other. IsTrue (comes_before (entry_in columns x) other)) (map (entry_in columns) ys) → k < length ys → stands_before columns x (get_or ys k 0) ≡ true
      each [] k all m = absurd (omega (arith, m))
      each (y ∷ ys) zero all m = all.0
      each (y ∷ ys) (suc k) all m = each ys k all.1 (omega (arith, m))
  before_at (x ∷ xs) (suc i) (suc j) r h l = before_at xs i j r.1 (omega (arith, h)) (omega (arith, l))

  -- of rows in order, those that do not come before another one stand last
  pub behind_ordered : (rows : List ℕ) (row first : ℕ) → AreRising (map (entry_in columns) rows) → AreOrdered (is_behind columns rows row) first (length rows)
  unfolding is_behind
  behind_ordered rows row first r i j f h l e = of (cases_lt i j) (stands_before columns (get_or rows j 0) row) refl
    where
      own : stands_before columns (get_or rows i 0) row ≡ false
      own = is_not (stands_before columns (get_or rows i 0) row) e

      of : (i < j) ⊎ (j ≤ i) → (b : Bool) → stands_before columns (get_or rows j 0) row ≡ b → is_behind columns rows row j ≡ true
      of k false g = ap not g
      of (inl k) true g = absurd (false≢true (sym own ∙ transitive (get_or rows i 0) (get_or rows j 0) row (before_at rows i j r k l) g))
      of (inr k) true g = let s : i ≡ j = omega (arith, h, k) in absurd (false≢true (sym own ∙ ap (λ p. stands_before columns (get_or rows p 0) row) s ∙ g))

  others : (x : ℕ) (xs ys : List ℕ) (y : ℕ) → AllByRecursion (λ other. IsTrue (comes_before (entry_in columns x) other)) (map (entry_in columns) (xs ++ ys)) → stands_before columns x y ≡ true
      → AllByRecursion (λ other. IsTrue (comes_before (entry_in columns x) other)) (map (entry_in columns) (xs ++ y ∷ ys))
  others x [] ys y all own = (own, all)
  others x (z ∷ xs) ys y all own = (all.0, others x xs ys y all.1 own)

  all_behind : (y : ℕ) (ys : List ℕ) → AllByRecursion (λ z. stands_before columns y z ≡ true) ys → AllByRecursion (λ other. IsTrue (comes_before (entry_in columns y) other)) (map (entry_in columns) ys)
  all_behind y [] all = tt
  all_behind y (z ∷ ys) all = (all.0, all_behind y ys all.1)

  -- a row between those before it and those behind it
  put_between : (xs ys : List ℕ) (y : ℕ) → AreRising (map (entry_in columns) (xs ++ ys)) → AllByRecursion (λ x. stands_before columns x y ≡ true) xs → AllByRecursion (λ z. stands_before columns y z ≡ true) ys
      → AreRising (map (entry_in columns) (xs ++ y ∷ ys))
  put_between [] ys y r before behind = (all_behind y ys behind, r)
  put_between (x ∷ xs) ys y r before behind = (others x xs ys y r.0 before.0, put_between xs ys y r.1 before.1 behind)

  -- ---- parts of a list

  all_there : (P : ℕ → Type 0) (xs : List ℕ) → ((k : ℕ) → k < length xs → P (get_or xs k 0)) → AllByRecursion (λ x. P x) xs
  all_there P [] h = tt
  all_there P (x ∷ xs) h = (h 0 (omega arith), all_there P xs (λ k l. h (suc k) (omega (arith, l))))

  all_from : (P : ℕ → Type 0) (xs : List ℕ) (from : ℕ) → ((k : ℕ) → from ≤ k → k < length xs → P (get_or xs k 0)) → AllByRecursion (λ x. P x) (drop from xs)
  all_from P xs zero h = all_there P xs (λ k l. h k (omega arith) l)
  all_from P [] (suc from) h = tt
  all_from P (x ∷ xs) (suc from) h = all_from P xs from (λ k l m. h (suc k) (omega (arith, l)) (omega (arith, m)))

  all_between : (P : ℕ → Type 0) (xs : List ℕ) (from to : ℕ) → ((k : ℕ) → from ≤ k → k < to → k < length xs → P (get_or xs k 0)) → AllByRecursion (λ x. P x) (take (to - from) (drop from xs))
  all_between P xs from zero h = let e : zero - from ≡ zero = omega arith in rw e tt
  all_between P [] zero (suc to) h = let e : suc to - zero ≡ suc to = omega arith in rw e tt
  all_between P (x ∷ xs) zero (suc to) h =
      let e : suc to - zero ≡ suc to = omega arith in
      let f : to - zero ≡ to = omega arith in
      rw e (h 0 (omega arith) (omega arith) (omega arith), rw f at (all_between P xs zero to (λ k f l m. h (suc k) (omega arith) (omega (arith, l)) (omega (arith, m)))))
  all_between P [] (suc from) (suc to) h = none (suc to - suc from)
    where
      none : (n : ℕ) → AllByRecursion (λ x. P x) (take n [])
      none zero = tt
      none (suc n) = tt
  all_between P (x ∷ xs) (suc from) (suc to) h = let e : suc to - suc from ≡ to - from = omega arith in rw e (all_between P xs from to (λ k f l m. h (suc k) (omega (arith, f)) (omega (arith, l)) (omega (arith, m))))

  of_none : (n : ℕ) (xs : List ℕ) → xs ≡ [] → take n xs ++ xs ≡ xs
  of_none zero xs e = refl
  of_none (suc n) xs e = rw e refl

  parted : (xs : List ℕ) (from to : ℕ) → from ≤ to → take (to - from) (drop from xs) ++ drop to xs ≡ drop from xs
  parted xs zero to h = let e : to - zero ≡ to = omega arith in rw e (take-append-drop to xs)
  parted [] (suc from) zero h = absurd (omega (arith, h))
  parted [] (suc from) (suc to) h = of_none (suc to - suc from) [] refl
  parted (x ∷ xs) (suc from) zero h = absurd (omega (arith, h))
  parted (x ∷ xs) (suc from) (suc to) h = let e : suc to - suc from ≡ to - from = omega arith in rw e (parted xs from to (omega (arith, h)))

  -- ---- how keys rank

  not_above : (xs ys : List ℕ) (i j : ℕ) → AreRising (map (entry_in columns) (xs ++ ys)) → i < j → j < length xs → row_rank columns (get_or xs i 0) (get_or xs j 0) ≢ Greater
  not_above xs ys i j r h l =
      let a : get_or (xs ++ ys) i 0 ≡ get_or xs i 0 = get_or_append_left xs ys 0 i (omega (arith, h, l)) in
      let b : get_or (xs ++ ys) j 0 ≡ get_or xs j 0 = get_or_append_left xs ys 0 j l in
      let n : j < length (xs ++ ys) = omega (arith, l, length-append xs ys) in
      before_is (row_rank columns (get_or xs i 0) (get_or xs j 0)) _ (rw (a, b) at (before_at (xs ++ ys) i j r h n))

  last_not_above : (xs : List ℕ) (row : ℕ) → AllByRecursion (λ x. stands_before columns x row ≡ true) xs → 0 < length xs → row_rank columns (get_or xs (length xs - 1) 0) row ≢ Greater
  last_not_above xs row all some = each xs (length xs - 1) all (omega (arith, some))
    where
      each : (ys : List ℕ) (k : ℕ) → AllByRecursion (λ x. stands_before columns x row ≡ true) ys → k < length ys → row_rank columns (get_or ys k 0) row ≢ Greater
      each [] k all h = absurd (omega (arith, h))
      each (y ∷ ys) zero all h = before_is (row_rank columns y row) _ all.0
      each (y ∷ ys) (suc k) all h = each ys k all.1 (omega (arith, h))

  -- no earlier row that comes behind one has its key
  none_like : (row : ℕ) (xs : List ℕ) → AllByRecursion (λ z. stands_before columns row z ≡ true) xs → AllByRecursion (λ z. z < row) xs → AllByRecursion (λ z. is_eq (row_rank columns z row) ≡ false) xs
  none_like row [] behind earlier = tt
  none_like row (z ∷ xs) behind earlier = (of (row_rank columns z row) refl, none_like row xs behind.1 earlier.1)
    where
      of : (o : Ordering) → row_rank columns z row ≡ o → is_eq (row_rank columns z row) ≡ false
      of Less e = ap is_eq e
      of Greater e = ap is_eq e
      of Equal e =
          let t : row_rank columns row z ≡ Equal = (rows_ranked columns).antisymm row z ∙ ap ordering_reverse e in
          let v : row < z = tied_rows (row_rank columns row z) row z t behind.0 in
          absurd (omega (arith, earlier.0, v))

  as_counted : (anew : Bool) (count own bit : ℕ) → bit ≡ from_bool anew → count ≡ own → count + bit ≡ own + (if anew then 1 else 0)
  as_counted true count own bit b e = let c : bit ≡ 1 = b in omega (arith, c, e)
  as_counted false count own bit b e = let c : bit ≡ 0 = b in omega (arith, c, e)

  few_more : (anew : Bool) (count count' bit long n : ℕ) → bit ≡ from_bool anew → count' ≡ count + bit → count ≤ long + n → count' ≤ long + (n + 1)
  few_more true count count' bit long n b e h = let c : bit ≡ 1 = b in omega (arith, c, e, h)
  few_more false count count' bit long n b e h = let c : bit ≡ 0 = b in omega (arith, c, e, h)

  -- ---- two lists, merged so far

  module _ (old further : List ℕ) where
    -- the rows so far, with those that are left of the old ones, and so many keys
    pub record AreMerged (rows : List ℕ) (from n count : ℕ) : Type 0 where
      pub within : from ≤ length old
      pub same : IsPermutation (old ++ take n further) (rows ++ drop from old)
      pub rising : AreRising (map (entry_in columns) (rows ++ drop from old))
      pub before : AllByRecursion (λ x. (j : ℕ) → n ≤ j → j < length further → stands_before columns x (get_or further j 0) ≡ true) rows
      pub counted : count ≡ count_keys columns (rows ++ drop from old)
      pub few : count ≤ length old + n

    pub none_merged : (count : ℕ) → AreRising (map (entry_in columns) old) → count ≡ count_keys columns old → AreMerged [] 0 0 count
    none_merged count r e = record {
      within = omega arith;
      same = let e : old ++ [] ≡ old = append_nil old in rw e (same_rows old);
      rising = r;
      before = tt;
      counted = e;
      few = let m = keys_at_most columns old in omega (arith, m, e);
    }
      where
        append_nil : (xs : List ℕ) → xs ++ [] ≡ xs
        append_nil [] = refl
        append_nil (x ∷ xs) = ap (λ ys. x ∷ ys) (append_nil xs)

        same_rows : (xs : List ℕ) → IsPermutation xs xs
        same_rows xs = record { moves = []; below = tt; is = refl }

    pub same_merged : (rows : List ℕ) (count : ℕ) → rows ≡ [] → AreMerged [] 0 0 count → AreMerged rows 0 0 count
    same_merged rows count e m = rw e m

    module _ (earlier : AreEarlier old further) (old_rising : AreRising (map (entry_in columns) old)) (further_rising : AreRising (map (entry_in columns) further)) where
      apart : (p i : ℕ) → p < length old → i < length further → nat_eq (get_or further i 0) (get_or old p 0) ≡ false
      apart p i h l = not_same (get_or old p 0) (get_or further i 0) (earlier p i h l)
        where
          not_same : (x y : ℕ) → x < y → nat_eq y x ≡ false
          not_same x y k = grind (arith, nat_tests)

      pub one_merged : (rows rows' : List ℕ) (from to n row count count' bit : ℕ) (anew : Bool) → n < length further → row ≡ get_or further n 0 → AreMerged rows from n count → Splits (is_behind columns old row) from (length old) to
          → rows' ≡ (rows ++ take (to - from) (drop from old)) ++ row ∷ [] → anew ≡ begins_anew columns (rows ++ take (to - from) (drop from old)) row → bit ≡ from_bool anew → count' ≡ count + bit → AreMerged rows' to (n + 1) count'
      unfolding is_behind
      one_merged rows rows' from to n row count count' bit anew h is m s e a b d =
          let part = take (to - from) (drop from old) in
          let rest = drop to old in
          let whole : (rows ++ part) ++ rest ≡ rows ++ drop from old = append_assoc rows part rest ∙ ap (λ xs. rows ++ xs) (parted old from to s.from) in
          let put : rows' ++ rest ≡ (rows ++ part) ++ row ∷ rest = ap (λ xs. xs ++ rest) e ∙ append_assoc (rows ++ part) (row ∷ []) rest in
          let next : take (n + 1) further ≡ take n further ++ row ∷ [] = take_more further n 0 h ∙ ap (λ x. take n further ++ x ∷ []) (sym is) in
          let part_before : AllByRecursion (λ x. stands_before columns x row ≡ true) part = all_between (λ x. stands_before columns x row ≡ true) old from to (λ k f l m. is_so (stands_before columns (get_or old k 0) row) (s.fail k f l)) in
          let all_before : AllByRecursion (λ x. stands_before columns x row ≡ true) (rows ++ part) = all_append (λ x. stands_before columns x row ≡ true) rows part (ready rows m.before) part_before in
          let all_behind : AllByRecursion (λ z. stands_before columns row z ≡ true) rest = all_from (λ z. stands_before columns row z ≡ true) old to (λ k f l. comes_first columns row (get_or old k 0) (is_not (stands_before columns (get_or old k 0) row) (s.pass k f l)) (ap (λ x. nat_eq x (get_or old k 0)) is ∙ apart k n l h)) in
          let all_earlier : AllByRecursion (λ z. z < row) rest = all_from (λ z. z < row) old to (λ k f l. rw is (earlier k n l h)) in
          let up : AreRising (map (entry_in columns) ((rows ++ part) ++ rest)) = rw whole m.rising in
          let more : count' ≡ count_keys columns ((rows ++ part) ++ row ∷ rest) = d ∙ as_counted anew count (count_keys columns ((rows ++ part) ++ rest)) bit b (m.counted ∙ ap (count_keys columns) (sym whole))
          ∙ sym (one_counted columns (rows ++ part) rest row anew (λ i j k l. not_above (rows ++ part) rest i j up k l) (λ some. last_not_above (rows ++ part) row all_before some) (none_like row rest all_behind all_earlier) a) in
          record {
            within = s.to;
            same = rw (put, next, ← append_assoc old (take n further) (row ∷ [])) (IsPermutation-push_more (old ++ take n further) ((rows ++ part) ++ rest) ((rows ++ part) ++ row ∷ rest) row (rw whole m.same) (IsPermutation-sym _ _ (IsPermutation-middle (rows ++ part) row rest)));
            rising = rw put (put_between (rows ++ part) rest row up all_before all_behind);
            before = rw e (all_append (λ x. Ahead (n + 1) x) (rows ++ part) (row ∷ []) (all_append (λ x. Ahead (n + 1) x) rows part (later rows m.before) (through part part_before)) (own, tt));
            counted = rw put more;
            few = few_more anew count count' bit (length old) n b d m.few;
          }
        where
          Ahead : ℕ → ℕ → Type 0
          Ahead k x = (j : ℕ) → k ≤ j → j < length further → stands_before columns x (get_or further j 0) ≡ true

          own : (j : ℕ) → n + 1 ≤ j → j < length further → stands_before columns row (get_or further j 0) ≡ true
          own j l k = rw is (before_at further n j further_rising (omega (arith, l)) k)

          ready : (xs : List ℕ) → AllByRecursion (λ x. (j : ℕ) → n ≤ j → j < length further → stands_before columns x (get_or further j 0) ≡ true) xs → AllByRecursion (λ x. stands_before columns x row ≡ true) xs
          ready [] all = tt
          ready (x ∷ xs) all = (rw is (all.0 n (omega arith) h), ready xs all.1)

          later : (xs : List ℕ) → AllByRecursion (λ x. (j : ℕ) → n ≤ j → j < length further → stands_before columns x (get_or further j 0) ≡ true) xs
              → AllByRecursion (λ x. (j : ℕ) → n + 1 ≤ j → j < length further → stands_before columns x (get_or further j 0) ≡ true) xs
          later [] all = tt
          later (x ∷ xs) all = (λ j l k. all.0 j (omega (arith, l)) k, later xs all.1)

          through : (xs : List ℕ) → AllByRecursion (λ x. stands_before columns x row ≡ true) xs
              → AllByRecursion (λ x. (j : ℕ) → n + 1 ≤ j → j < length further → stands_before columns x (get_or further j 0) ≡ true) xs
          through [] all = tt
          through (x ∷ xs) all = (λ j l k. transitive x row (get_or further j 0) all.0 (own j l k), through xs all.1)
