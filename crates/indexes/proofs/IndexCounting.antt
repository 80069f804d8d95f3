-- Keys are counted as rows are put among others.
use Rattle.std.proofs.Common.{◌≡◌, ◌≢◌, ◌∙◌, refl, sym, ap, ap₂, ℕ, zero, suc, ◌+◌, ◌-◌, ◌<◌, ◌≤◌, List, [], ◌∷◌, ◌++◌, Bool, true, false, cond, length, map, get_or, inl, inr, arith}
use Rattle.std.specs.Prelude.{◌&&◌, ◌||◌, ◌==◌, ◌⊎◌, not, filter, if◌then◌else◌}
use Rattle.std.specs.List.{AllByRecursion, list_any}
use Rattle.std.proofs.lemmas.Bool.{false≢true, cases_lt}
use Rattle.std.proofs.lemmas.Bool.Decides.{nat_tests}
use Rattle.std.proofs.lemmas.List.{length-append, append-nil, length-map, map-append}
use Rattle.std.proofs.lemmas.List.Elements.{filter-append}
use Rattle.std.proofs.lemmas.List.Folds.{list_any-append}
use Rattle.std.proofs.lemmas.List.Sorted.{IsPermutation-map, IsPermutation-trans, IsPermutation-sym, IsPermutation-middle, IsPermutation-to_front}
use Rattle.std.specs.Ordering.{ordering_then, is_eq}
use Rattle.std.specs.declared.cmp.Ordering.{Ordering}
use Rattle.std.specs.declared.cmp.Ordering.TheVariants.{Less, Equal, Greater}
use Rattle.definitions.specs.Value.{Value, Null, Number, Text, rank, is_null}
use Rattle.definitions.specs.Key.{Key, key_rank, has_null, full_keys, distinct_keys}
use Rattle.columns.specs.Cells.{CellList}
use Rattle.columns.specs.Starts.{value_in}
use Rattle.indexes.specs.Keys.{count_keys, key_in}
use Rattle.indexes.specs.Merging.{begins_anew}
use Rattle.indexes.proofs.DistinctKeys.{AreOfLength, as_many_keys}
use Rattle.indexes.proofs.KeyOrder.{row_rank, rows_ranked}

all_there : (P : ℕ → Type 0) (xs : List ℕ) → ((k : ℕ) → k < length xs → P (get_or xs k 0)) → AllByRecursion (λ x. P x) xs
all_there P [] h = tt
all_there P (x ∷ xs) h = (h 0 (omega arith), all_there P xs (λ k l. h (suc k) (omega (arith, l))))

-- ---- one key more

abbrev found : Key → List Key → Bool
found key = list_any (λ x. is_eq (key_rank x key))

after : (c : Bool) (x : Key) (xs ys zs : List Key) → xs ≡ ys ++ zs → cond c (x ∷ xs) xs ≡ cond c (x ∷ ys) ys ++ zs
after true x xs ys zs e = ap (λ us. x ∷ us) e
after false x xs ys zs e = e

filter_push : (p : Key → Bool) (xs : List Key) (b : Bool) (k : Key) → filter p (xs ++ cond b [] (k ∷ [])) ≡ filter p xs ++ cond (not (p k) || b) [] (k ∷ [])
filter_push p [] true k = of (p k)
  where
    of : (b : Bool) → [] ≡ cond (not b || true) [] (k ∷ [])
    of true = refl
    of false = refl
filter_push p [] false k = of (p k)
  where
    of : (b : Bool) → cond b (k ∷ []) [] ≡ cond (not b || false) [] (k ∷ [])
    of true = refl
    of false = refl
filter_push p (x ∷ xs) b k = after (p x) x _ _ _ (filter_push p xs b k)

not_not : (b c : Bool) → (not (not b) || c) ≡ (b || c)
not_not true c = refl
not_not false c = refl

pub distinct_push : (xs : List Key) (k : Key) → distinct_keys (xs ++ k ∷ []) ≡ distinct_keys xs ++ cond (found k xs) [] (k ∷ [])
distinct_push [] k = refl
distinct_push (x ∷ xs) k =
    let p : Key → Bool = λ other. not (is_eq (key_rank x other)) in
    ap (λ ys. x ∷ filter p ys) (distinct_push xs k) ∙ ap (λ ys. x ∷ ys) (filter_push p (distinct_keys xs) (found k xs) k)
    ∙ ap (λ b. x ∷ (filter p (distinct_keys xs) ++ cond b [] (k ∷ []))) (not_not (is_eq (key_rank x k)) (found k xs))

pub full_push : (xs : List Key) (k : Key) → full_keys (xs ++ k ∷ []) ≡ full_keys xs ++ cond (has_null k) [] (k ∷ [])
full_push [] k = of (has_null k)
  where
    of : (b : Bool) → cond (not b) (k ∷ []) [] ≡ cond b [] (k ∷ [])
    of true = refl
    of false = refl
full_push (x ∷ xs) k = after (not (has_null x)) x _ _ _ (full_push xs k)

-- ---- keys that are equal have nulls alike

null_alike : (a b : Value) → rank a b ≡ Equal → is_null a ≡ is_null b
null_alike Null Null e = refl
null_alike Null (Number u s) e = absurd cc
null_alike Null (Text t) e = absurd cc
null_alike (Number u s) Null e = absurd cc
null_alike (Text t) Null e = absurd cc
null_alike (Number u s) (Number v r) e = refl
null_alike (Number u s) (Text t) e = refl
null_alike (Text t) (Number u s) e = refl
null_alike (Text t) (Text x) e = refl

then_equal : (o p : Ordering) → ordering_then o p ≡ Equal → (o ≡ Equal) × (p ≡ Equal)
then_equal Less p e = absurd cc
then_equal Equal p e = (refl, e)
then_equal Greater p e = absurd cc

pub nulls_alike : (columns : List CellList) (a b : ℕ) → row_rank columns a b ≡ Equal → has_null (key_in columns a) ≡ has_null (key_in columns b)
nulls_alike [] a b e = refl
nulls_alike (c ∷ cs) a b e =
    let t = then_equal (rank (value_in c a) (value_in c b)) (row_rank cs a b) e in
    ap₂ ◌||◌ (null_alike (value_in c a) (value_in c b) t.0) (nulls_alike cs a b t.1)

-- ---- a key among those of some rows

is_equal : (o : Ordering) → is_eq o ≡ true → o ≡ Equal
is_equal Less e = absurd (false≢true e)
is_equal Equal e = refl
is_equal Greater e = absurd (false≢true e)

not_equal : (o : Ordering) → is_eq o ≡ false → o ≢ Greater → o ≡ Less
not_equal Less e n = refl
not_equal Equal e n = absurd (false≢true (sym e))
not_equal Greater e n = absurd (n refl)

or_false : (a b : Bool) → a ≡ false → b ≡ false → (a || b) ≡ false
or_false a b e f = rw (e, f) refl

or_true : (a b : Bool) → b ≡ true → (a || b) ≡ true
or_true true b e = refl
or_true false b e = e

kept_absent : (b : Bool) (k key : Key) (ks : List Key) → is_eq (key_rank k key) ≡ false → found key ks ≡ false → found key (cond b (k ∷ ks) ks) ≡ false
kept_absent true k key ks e f = or_false _ _ e f
kept_absent false k key ks e f = f

kept_present : (b : Bool) (k key : Key) (ks : List Key) → found key ks ≡ true → found key (cond b (k ∷ ks) ks) ≡ true
kept_present true k key ks f = or_true _ _ f
kept_present false k key ks f = f

one_more : (xs : List Key) (k : Key) (b : Bool) → found k xs ≡ b → length (distinct_keys (xs ++ k ∷ [])) ≡ length (distinct_keys xs) + (if b then 0 else 1)
one_more xs k b e = ap length (distinct_push xs k) ∙ ap (λ c. length (distinct_keys xs ++ cond c [] (k ∷ []))) e ∙ of b
  where
    of : (c : Bool) → length (distinct_keys xs ++ cond c [] (k ∷ [])) ≡ length (distinct_keys xs) + (if c then 0 else 1)
    of true = let n = length-append (distinct_keys xs) [] in omega (arith, n)
    of false = length-append (distinct_keys xs) (k ∷ [])

module _ (columns : List CellList) where
  abbrev keys : List ℕ → List Key
  keys = map (key_in columns)

  absent : (rows : List ℕ) (row : ℕ) → AllByRecursion (λ x. is_eq (row_rank columns x row) ≡ false) rows → found (key_in columns row) (full_keys (keys rows)) ≡ false
  absent [] row all = refl
  absent (x ∷ rows) row all = kept_absent (not (has_null (key_in columns x))) (key_in columns x) (key_in columns row) (full_keys (keys rows)) all.0 (absent rows row all.1)

  present : (rows : List ℕ) (row i : ℕ) → i < length rows → has_null (key_in columns (get_or rows i 0)) ≡ false → is_eq (row_rank columns (get_or rows i 0) row) ≡ true → found (key_in columns row) (full_keys (keys rows)) ≡ true
  present [] row i h full e = absurd (omega (arith, h))
  present (x ∷ rows) row zero h full e = ap (λ b. found (key_in columns row) (cond (not b) (key_in columns x ∷ full_keys (keys rows)) (full_keys (keys rows)))) full ∙ ap (λ b. b || found (key_in columns row) (full_keys (keys rows))) e
  present (x ∷ rows) row (suc i) h full e = kept_present (not (has_null (key_in columns x))) (key_in columns x) (key_in columns row) (full_keys (keys rows)) (present rows row i (omega (arith, h)) full e)

  -- of rows before a row, none has its key where the last one hasn't
  none_before : (rows : List ℕ) (row : ℕ) → ((i j : ℕ) → i < j → j < length rows → row_rank columns (get_or rows i 0) (get_or rows j 0) ≢ Greater) → 0 < length rows
      → row_rank columns (get_or rows (length rows - 1) 0) row ≡ Less → AllByRecursion (λ x. is_eq (row_rank columns x row) ≡ false) rows
  none_before rows row ordered some less = all_there (λ x. is_eq (row_rank columns x row) ≡ false) rows (λ i h. ap is_eq (of i h (cases_lt i (length rows - 1))))
    where
      last : ℕ
      last = get_or rows (length rows - 1) 0

      below : (x : ℕ) → row_rank columns x last ≢ Greater → row_rank columns x row ≡ Less
      below x n = by (row_rank columns x last) refl
        where
          by : (o : Ordering) → row_rank columns x last ≡ o → row_rank columns x row ≡ Less
          by Less f = (rows_ranked columns).trans x last row f less
          by Equal f = (rows_ranked columns).congr x last row f ∙ less
          by Greater f = absurd (n f)

      of : (i : ℕ) → i < length rows → (i < length rows - 1) ⊎ (length rows - 1 ≤ i) → row_rank columns (get_or rows i 0) row ≡ Less
      of i h (inl k) = below (get_or rows i 0) (ordered i (length rows - 1) k (omega (arith, some)))
      of i h (inr k) = let s : i ≡ length rows - 1 = omega (arith, h, k) in ap (λ p. row_rank columns (get_or rows p 0) row) s ∙ less

  keys_long : (rows : List ℕ) → AreOfLength (length columns) (keys rows)
  keys_long [] = tt
  keys_long (x ∷ rows) = (length-map columns (λ column. value_in column x), keys_long rows)

  -- a row put among others adds its key, if that is new behind those before it
  pub one_counted : (before behind : List ℕ) (row : ℕ) (anew : Bool) → ((i j : ℕ) → i < j → j < length before → row_rank columns (get_or before i 0) (get_or before j 0) ≢ Greater)
      → (0 < length before → row_rank columns (get_or before (length before - 1) 0) row ≢ Greater) → AllByRecursion (λ z. is_eq (row_rank columns z row) ≡ false) behind → anew ≡ begins_anew columns before row
      → count_keys columns (before ++ row ∷ behind) ≡ count_keys columns (before ++ behind) + (if anew then 1 else 0)
  one_counted before behind row anew ordered last_one none is =
      moved ∙ by (has_null k) refl
    where
      k : Key
      k = key_in columns row

      others : List Key
      others = full_keys (keys (before ++ behind))

      moved : count_keys columns (before ++ row ∷ behind) ≡ length (distinct_keys (full_keys (keys (before ++ behind) ++ k ∷ [])))
      moved =
          as_many_keys (length columns) (keys (before ++ row ∷ behind)) (keys ((before ++ behind) ++ row ∷ [])) (keys_long (before ++ row ∷ behind))
          (IsPermutation-map (key_in columns) (before ++ row ∷ behind) ((before ++ behind) ++ row ∷ []) (IsPermutation-trans (before ++ row ∷ behind) (row ∷ (before ++ behind)) ((before ++ behind) ++ row ∷ []) (IsPermutation-middle before row behind) (IsPermutation-sym ((before ++ behind) ++ row ∷ []) (row ∷ (before ++ behind)) (IsPermutation-to_front (before ++ behind) row))))
          ∙ ap (λ ks. length (distinct_keys (full_keys ks))) (map-append (key_in columns) (before ++ behind) (row ∷ []))

      split : found k others ≡ (found k (full_keys (keys before)) || found k (full_keys (keys behind)))
      split =
          ap (λ ks. found k (full_keys ks)) (map-append (key_in columns) before behind) ∙ ap (found k) (filter-append (λ key. not (has_null key)) (keys before) (keys behind))
          ∙ list_any-append (λ x. is_eq (key_rank x k)) (full_keys (keys before)) (full_keys (keys behind))

      found_before : (b : Bool) → found k (full_keys (keys before)) ≡ b → found k others ≡ b
      found_before true e = split ∙ ap (λ b. b || found k (full_keys (keys behind))) e
      found_before false e = split ∙ or_false _ _ e (absent behind row none)

      no_more : (b c : Bool) (none : ℕ) → anew ≡ (not b && c) → b ≡ true → (if anew then 1 else none) ≡ none
      no_more b c none e f = rw (e, f) refl

      as_last : has_null k ≡ false → (n : ℕ) → length before ≡ n → (b : Bool) → is_eq (row_rank columns (get_or before (n - 1) 0) row) ≡ b → found k others ≡ not anew
      as_last full zero e b f = found_before false (of_empty before e) ∙ sym (ap not (is ∙ ap₂ (λ x y. not x && (y == 0 || not (is_eq (row_rank columns (get_or before (length before - 1) 0) row)))) full e))
        where
          of_empty : (rows : List ℕ) → length rows ≡ 0 → found k (full_keys (keys rows)) ≡ false
          of_empty [] h = refl
          of_empty (x ∷ rows) h = absurd (omega (arith, h))
      as_last full (suc n) e true f =
          let i : length before - 1 ≡ suc n - 1 = omega (arith, e) in
          let equal : row_rank columns (get_or before (suc n - 1) 0) row ≡ Equal = is_equal (row_rank columns (get_or before (suc n - 1) 0) row) f in
          found_before true (present before row (suc n - 1) (omega (arith, e)) (nulls_alike columns (get_or before (suc n - 1) 0) row equal ∙ full) f)
          ∙ sym (ap not (is ∙ ap₂ (λ x y. not x && y) full (last_by true i f)))
        where
          last_by : (b : Bool) → length before - 1 ≡ suc n - 1 → is_eq (row_rank columns (get_or before (suc n - 1) 0) row) ≡ b → (length before == 0 || not (is_eq (row_rank columns (get_or before (length before - 1) 0) row))) ≡ not b
          last_by b i g = let z : (length before == 0) ≡ false = grind (arith, nat_tests, e) in ap₂ (λ x y. x || not (is_eq (row_rank columns (get_or before y 0) row))) z i ∙ ap not g
      as_last full (suc n) e false f =
          let i : length before - 1 ≡ suc n - 1 = omega (arith, e) in
          let less : row_rank columns (get_or before (length before - 1) 0) row ≡ Less = not_equal _ (ap (λ p. is_eq (row_rank columns (get_or before p 0) row)) i ∙ f) (last_one (omega (arith, e))) in
          found_before false (absent before row (none_before before row ordered (omega (arith, e)) less))
          ∙ sym (ap not (is ∙ ap₂ (λ x y. not x && y) full (last_by false i f)))
        where
          last_by : (b : Bool) → length before - 1 ≡ suc n - 1 → is_eq (row_rank columns (get_or before (suc n - 1) 0) row) ≡ b → (length before == 0 || not (is_eq (row_rank columns (get_or before (length before - 1) 0) row))) ≡ not b
          last_by b i g = let z : (length before == 0) ≡ false = grind (arith, nat_tests, e) in ap₂ (λ x y. x || not (is_eq (row_rank columns (get_or before y 0) row))) z i ∙ ap not g

      added : (b : Bool) (n : ℕ) → n + (if not b then 0 else 1) ≡ n + (if b then 1 else 0)
      added true n = refl
      added false n = refl

      by : (b : Bool) → has_null k ≡ b → length (distinct_keys (full_keys (keys (before ++ behind) ++ k ∷ []))) ≡ count_keys columns (before ++ behind) + (if anew then 1 else 0)
      by true e =
          let z = no_more (has_null k) (length before == 0 || not (is_eq (row_rank columns (get_or before (length before - 1) 0) row))) 0 is e in
          ap (λ ks. length (distinct_keys ks)) (full_push (keys (before ++ behind)) k ∙ ap (λ b. others ++ cond b [] (k ∷ [])) e ∙ append-nil others) ∙ omega (arith, z)
      by false e =
          ap (λ ks. length (distinct_keys ks)) (full_push (keys (before ++ behind)) k ∙ ap (λ b. others ++ cond b [] (k ∷ [])) e)
          ∙ one_more others k (not anew) (as_last e (length before) refl (is_eq (row_rank columns (get_or before (length before - 1) 0) row)) refl) ∙ added anew (count_keys columns (before ++ behind))

-- so many keys there are at most
fewer_by : (b : Bool) (k : Key) (ks ls : List Key) → length ks ≤ length ls → length (cond b (k ∷ ks) ks) ≤ suc (length ls)
fewer_by true k ks ls h = omega (arith, h)
fewer_by false k ks ls h = omega (arith, h)

fewer_kept : (p : Key → Bool) (ks : List Key) → length (filter p ks) ≤ length ks
fewer_kept p [] = omega arith
fewer_kept p (k ∷ ks) = fewer_by (p k) k (filter p ks) ks (fewer_kept p ks)

fewer_distinct : (ks : List Key) → length (distinct_keys ks) ≤ length ks
fewer_distinct [] = omega arith
fewer_distinct (k ∷ ks) = let h = fewer_distinct ks in let l = fewer_kept (λ other. not (is_eq (key_rank k other))) (distinct_keys ks) in omega (arith, h, l)

pub keys_at_most : (columns : List CellList) (rows : List ℕ) → count_keys columns rows ≤ length rows
keys_at_most columns rows =
    let ks = map (key_in columns) rows in
    let a = fewer_distinct (full_keys ks) in
    let b = fewer_kept (λ key. not (has_null key)) ks in
    let n = length-map rows (key_in columns) in
    omega (arith, a, b, n)
