-- The first row whose key repeats an earlier one, found beside its like in the order of keys.
use Rattle.std.proofs.Common.{◌≡◌, ◌≢◌, ◌∙◌, refl, sym, ap, ap₂, ℕ, zero, suc, ◌+◌, ◌-◌, ◌<◌, ◌≤◌, List, [], ◌∷◌, Bool, true, false, length, map, take, get_or, inl, inr, arith}
use Rattle.std.specs.Prelude.{IsPermutation, IsFalse, IfSome, IsNone, ◌&&◌, ◌⊎◌, not, nat_lt, Option, Some, None, if◌then◌else◌}
use Rattle.std.specs.List.{AllByRecursion, range_with_len}
use Rattle.std.proofs.lemmas.Bool.{false≢true, cases_lt}
use Rattle.std.proofs.lemmas.Bool.Decides.{nat_tests}
use Rattle.std.proofs.lemmas.List.{get_or-map, get_or_default, get_or-take, length-take-le, length-map}
use Rattle.std.proofs.lemmas.List.Sorted.{Contains-permutation, IsPermutation-sym, length_permutation}
use Rattle.std.proofs.lemmas.List.FromFn.{length-range_with_len, get_or-range_with_len, get_or-map-range_with_len, length-map-range_with_len}
use Rattle.std.specs.Ordering.{nat_cmp, ordering_then, ordering_reverse, is_lt, is_eq}
use Rattle.std.specs.declared.cmp.Ordering.{Ordering}
use Rattle.std.specs.declared.cmp.Ordering.TheVariants.{Less, Equal, Greater}
use Rattle.definitions.specs.Key.{Key, has_null, repeats, AreUnique}
use Rattle.definitions.specs.IndexRun.{AreRising, comes_before}
use Rattle.columns.specs.Cells.{CellList}
use Rattle.indexes.specs.Keys.{key_in, entry_in}
use Rattle.indexes.specs.Repeats.{IsFirstRepeated, repeat_at, lower_of}
use Rattle.indexes.specs.declared.repeated.RepeatedKey.{RepeatedKey}
use Rattle.indexes.proofs.KeyOrder.{row_rank, row_order, rows_ranked}
use Rattle.indexes.proofs.KeyStretches.{rising_at}
use Rattle.indexes.proofs.IndexCounting.{nulls_alike}

-- ---- the lowest of what the first places tell

abbrev pub lowest : List CellList → List ℕ → ℕ → Option RepeatedKey
lowest columns rows zero = None
lowest columns rows (suc n) = lower_of (lowest columns rows n) (repeat_at columns rows n)

pub lowest_more : (columns : List CellList) (rows : List ℕ) (n : ℕ) (a b : Option RepeatedKey) → a ≡ lowest columns rows n → b ≡ repeat_at columns rows n → lower_of a b ≡ lowest columns rows (n + 1)
lowest_more columns rows n a b e f = let s : n + 1 ≡ suc n = omega arith in rw s (ap₂ lower_of e f)

some_is : {X : Type 0} (x y : X) → Some x ≡ Some y → x ≡ y
some_is x y e = cc

-- of two, the lower one is one of them, and not above either
lower_one : (a b : Option RepeatedKey) (f : RepeatedKey) → lower_of a b ≡ Some f → (a ≡ Some f) ⊎ (b ≡ Some f)
lower_one None b f e = inr e
lower_one (Some x) None f e = inl e
lower_one (Some x) (Some y) f e = of (nat_lt y.row x.row) e
  where
    of : (t : Bool) → (if t then Some y else Some x) ≡ Some f → (Some x ≡ Some f) ⊎ (Some y ≡ Some f)
    of true k = inr k
    of false k = inl k

lower_first : (a b : Option RepeatedKey) (f g : RepeatedKey) → lower_of a b ≡ Some f → a ≡ Some g → f.row ≤ g.row
lower_first None b f g e h = absurd cc
lower_first (Some x) None f g e h = let k : f ≡ g = some_is f g (sym e ∙ h) in rw k (omega arith)
lower_first (Some x) (Some y) f g e h = of (nat_lt y.row x.row) refl e
  where
    of : (t : Bool) → nat_lt y.row x.row ≡ t → (if t then Some y else Some x) ≡ Some f → f.row ≤ g.row
    of true k i = let a : y ≡ f = some_is y f i in let b : x ≡ g = some_is x g h in let l : y.row < x.row = grind (arith, nat_tests) in rw (← a, ← b) (omega (arith, l))
    of false k i = let a : x ≡ f = some_is x f i in let b : x ≡ g = some_is x g h in rw (← a, ← b) (omega arith)

lower_second : (a b : Option RepeatedKey) (f g : RepeatedKey) → lower_of a b ≡ Some f → b ≡ Some g → f.row ≤ g.row
lower_second None b f g e h = let k : f ≡ g = some_is f g (sym e ∙ h) in rw k (omega arith)
lower_second (Some x) None f g e h = absurd cc
lower_second (Some x) (Some y) f g e h = of (nat_lt y.row x.row) refl e
  where
    of : (t : Bool) → nat_lt y.row x.row ≡ t → (if t then Some y else Some x) ≡ Some f → f.row ≤ g.row
    of true k i = let a : y ≡ f = some_is y f i in let b : y ≡ g = some_is y g h in rw (← a, ← b) (omega arith)
    of false k i = let a : x ≡ f = some_is x f i in let b : y ≡ g = some_is y g h in let l : x.row ≤ y.row = grind (arith, nat_tests) in rw (← a, ← b) (omega (arith, l))

lower_none : (a b : Option RepeatedKey) → lower_of a b ≡ None → (a ≡ None) × (b ≡ None)
lower_none None b e = (refl, e)
lower_none (Some x) None e = absurd cc
lower_none (Some x) (Some y) e = of (nat_lt y.row x.row) e
  where
    of : (t : Bool) → (if t then Some y else Some x) ≡ None → (Some x ≡ None) × (Some y ≡ None)
    of true k = absurd cc
    of false k = absurd cc

module _ (columns : List CellList) (rows : List ℕ) where
  lowest_there : (n : ℕ) (f : RepeatedKey) → lowest columns rows n ≡ Some f → (p : ℕ) × (p < n) × (repeat_at columns rows p ≡ Some f)
  lowest_there zero f e = absurd cc
  lowest_there (suc n) f e = of (lower_one (lowest columns rows n) (repeat_at columns rows n) f e) (lowest_there n f)
    where
      of : (lowest columns rows n ≡ Some f) ⊎ (repeat_at columns rows n ≡ Some f) → (lowest columns rows n ≡ Some f → (p : ℕ) × (p < n) × (repeat_at columns rows p ≡ Some f)) → (p : ℕ) × (p < suc n) × (repeat_at columns rows p ≡ Some f)
      of (inr k) rest = (n, omega arith, k)
      of (inl k) rest = let (p, l, i) = rest k in (p, omega (arith, l), i)

  none_before : (n p : ℕ) → lowest columns rows n ≡ None → p < n → repeat_at columns rows p ≡ None
  none_before zero p e h = absurd (omega (arith, h))
  none_before (suc n) p e h = of (cases_lt p n) (lower_none (lowest columns rows n) (repeat_at columns rows n) e) (none_before n p)
    where
      of : (p < n) ⊎ (n ≤ p) → (lowest columns rows n ≡ None) × (repeat_at columns rows n ≡ None) → (lowest columns rows n ≡ None → p < n → repeat_at columns rows p ≡ None) → repeat_at columns rows p ≡ None
      of (inl k) (a, b) rest = rest a k
      of (inr k) (a, b) rest = let q : p ≡ n = omega (arith, h, k) in ap (repeat_at columns rows) q ∙ b

  lowest_least : (n : ℕ) (f g : RepeatedKey) (p : ℕ) → lowest columns rows n ≡ Some f → p < n → repeat_at columns rows p ≡ Some g → f.row ≤ g.row
  lowest_least zero f g p e h i = absurd (omega (arith, h))
  lowest_least (suc n) f g p e h i = of (cases_lt p n) (lowest columns rows n) refl (λ x k l. lowest_least n x g p k l i)
    where
      of : (p < n) ⊎ (n ≤ p) → (o : Option RepeatedKey) → lowest columns rows n ≡ o → ((x : RepeatedKey) → lowest columns rows n ≡ Some x → p < n → x.row ≤ g.row) → f.row ≤ g.row
      of (inr k) o m rest = let q : p ≡ n = omega (arith, h, k) in lower_second (lowest columns rows n) (repeat_at columns rows n) f g e (ap (repeat_at columns rows) (sym q) ∙ i)
      of (inl k) None m rest = absurd (some_none (sym i ∙ none_before n p m k))
        where
          some_none : Some g ≡ None → ⊥
          some_none z = absurd cc
      of (inl k) (Some x) m rest = let a = rest x m k in let b = lower_first (lowest columns rows n) (repeat_at columns rows n) f x e m in omega (arith, a, b)

-- ---- in the order of keys, a key that comes again stands behind its like

both : (a b : Bool) → (a && b) ≡ true → (a ≡ true) × (b ≡ true)
both true b h = (refl, h)
both false b h = absurd (false≢true h)

is_equal : (o : Ordering) → is_eq o ≡ true → o ≡ Equal
is_equal Less e = absurd (false≢true e)
is_equal Equal e = refl
is_equal Greater e = absurd (false≢true e)

pub before_is : (o p : Ordering) → is_lt (ordering_then o p) ≡ true → o ≢ Greater
before_is Less p h e = absurd cc
before_is Equal p h e = absurd cc
before_is Greater p h e = false≢true h

pub tied_rows : (o : Ordering) (x y : ℕ) → o ≡ Equal → is_lt (ordering_then o (nat_cmp x y)) ≡ true → x < y
tied_rows o x y e h = below x y (sym (ap (λ p. is_lt (ordering_then p (nat_cmp x y))) e) ∙ h)
  where
    below : (a b : ℕ) → is_lt (nat_cmp a b) ≡ true → a < b
    below a b k = grind (arith, nat_tests)

module _ (columns : List CellList) (rows : List ℕ) (n : ℕ) (same : IsPermutation (range_with_len 0 n) rows) (rising : AreRising (map (entry_in columns) rows)) where
  long : length rows ≡ n
  long = length_permutation (range_with_len 0 n) rows same ∙ length-range_with_len 0 n

  place_of : (row : ℕ) → row < n → (p : ℕ) × (p < length rows) × (get_or rows p 0 ≡ row)
  place_of row h =
      let (p, l, e) = Contains-permutation (range_with_len 0 n) rows row same (row, omega (arith, h, length-range_with_len 0 n), get_or-range_with_len 0 n row row h ∙ omega arith) in
      (p, l, get_or_default rows p 0 row l ∙ e)

  row_below : (p : ℕ) → p < length rows → get_or rows p 0 < n
  row_below p h =
      let (q, l, e) = Contains-permutation rows (range_with_len 0 n) (get_or rows p 0) (IsPermutation-sym (range_with_len 0 n) rows same) (p, h, get_or_default rows p (get_or rows p 0) 0 h) in
      let m : q < n = omega (arith, l, length-range_with_len 0 n) in
      let f : get_or rows p 0 ≡ 0 + q = sym e ∙ get_or-range_with_len 0 n q (get_or rows p 0) m in
      omega (arith, m, f)

  before_at : (i j : ℕ) → i < j → j < length rows → is_lt (row_order columns (get_or rows i 0) (get_or rows j 0)) ≡ true
  before_at i j h l =
      let d = entry_in columns 0 in
      let m : length (map (entry_in columns) rows) ≡ length rows = length-map rows (entry_in columns) in
      let a : get_or (map (entry_in columns) rows) i d ≡ entry_in columns (get_or rows i 0) = get_or-map (entry_in columns) rows i 0 d (omega (arith, h, l)) in
      let b : get_or (map (entry_in columns) rows) j d ≡ entry_in columns (get_or rows j 0) = get_or-map (entry_in columns) rows j 0 d l in
      sym (ap₂ (λ x y. comes_before x y) a b) ∙ rising_at (map (entry_in columns) rows) i j d rising h (omega (arith, l, m))

  not_above : (i j : ℕ) → i ≤ j → j < length rows → row_rank columns (get_or rows i 0) (get_or rows j 0) ≢ Greater
  not_above i j h l = of (cases_lt i j)
    where
      of : (i < j) ⊎ (j ≤ i) → row_rank columns (get_or rows i 0) (get_or rows j 0) ≡ Greater → ⊥
      of (inl k) e = before_is (row_rank columns (get_or rows i 0) (get_or rows j 0)) _ (before_at i j k l) e
      of (inr k) e =
          let s : i ≡ j = omega (arith, h, k) in
          let t : row_rank columns (get_or rows j 0) (get_or rows j 0) ≡ Greater = rw s at e in
          never (row_rank columns (get_or rows j 0) (get_or rows j 0)) ((rows_ranked columns).antisymm (get_or rows j 0) (get_or rows j 0)) t
        where
          never : (o : Ordering) → o ≡ ordering_reverse o → o ≡ Greater → ⊥
          never Less a b = absurd cc
          never Equal a b = absurd cc
          never Greater a b = absurd cc

  squeezed : (a b c : ℕ) → row_rank columns a c ≡ Equal → row_rank columns a b ≢ Greater → row_rank columns b c ≢ Greater → row_rank columns b c ≡ Equal
  squeezed a b c e h l = of (row_rank columns b c) refl (row_rank columns a b) refl
    where
      less_equal : row_rank columns a c ≡ Less → row_rank columns b c ≡ Equal
      less_equal f = absurd (apart (sym e ∙ f))
        where
          apart : Equal ≡ Less → ⊥
          apart g = absurd cc

      of : (o : Ordering) → row_rank columns b c ≡ o → (p : Ordering) → row_rank columns a b ≡ p → row_rank columns b c ≡ Equal
      of Equal f p g = f
      of Greater f p g = absurd (l f)
      of Less f Less g = less_equal ((rows_ranked columns).trans a b c g f)
      of Less f Equal g = less_equal ((rows_ranked columns).congr a b c g ∙ f)
      of Less f Greater g = absurd (h g)

  pub told : (i j : ℕ) → i < j → j < n → has_null (key_in columns j) ≡ false → row_rank columns i j ≡ Equal → (p : ℕ) × (p + 1 < length rows) × ((e : ℕ) × (repeat_at columns rows p ≡ Some (record { row = j; earlier = e })))
  told i j h l full e =
      let (q, lq, eq) = place_of i (omega (arith, h, l)) in
      let (p, lp, ep) = place_of j l in
      of q lq eq p lp ep (cases_lt q p)
    where
      found : (q p : ℕ) → q < p + 1 → get_or rows q 0 ≡ i → get_or rows (p + 1) 0 ≡ j → p + 1 < length rows → repeat_at columns rows p ≡ Some (record { row = j; earlier = get_or rows p 0 })
      found q p k eq ep lp =
          let a : row_rank columns i (get_or rows p 0) ≢ Greater = rw eq at (not_above q p (omega (arith, k)) (omega (arith, lp))) in
          let b : row_rank columns (get_or rows p 0) j ≢ Greater = rw ep at (not_above p (p + 1) (omega arith) lp) in
          let s = squeezed i (get_or rows p 0) j e a b in
          rw (ep, full, s) refl

      of : (q : ℕ) → q < length rows → get_or rows q 0 ≡ i → (p : ℕ) → p < length rows → get_or rows p 0 ≡ j → (q < p) ⊎ (p ≤ q) → (p : ℕ) × (p + 1 < length rows) × ((e : ℕ) × (repeat_at columns rows p ≡ Some (record { row = j; earlier = e })))
      of q lq eq zero lp ep (inl k) = absurd (omega (arith, k))
      of q lq eq (suc p) lp ep (inl k) =
          let s : suc p ≡ p + 1 = omega arith in
          (p, omega (arith, lp), (get_or rows p 0, found q p (omega (arith, k)) eq (ap (λ x. get_or rows x 0) (sym s) ∙ ep) (omega (arith, lp))))
      of q lq eq p lp ep (inr k) = absurd (wrong (cases_lt p q))
        where
          wrong : (p < q) ⊎ (q ≤ p) → ⊥
          wrong (inr m) = let s : p ≡ q = omega (arith, k, m) in let t : i ≡ j = sym eq ∙ ap (λ x. get_or rows x 0) (sym s) ∙ ep in absurd (omega (arith, h, t))
          wrong (inl m) =
              let t : is_lt (row_order columns j i) ≡ true = rw (ep, eq) at (before_at p q m lq) in
              let u : row_rank columns j i ≡ Equal = (rows_ranked columns).antisymm j i ∙ ap ordering_reverse e in
              let v : j < i = tied_rows (row_rank columns j i) j i u t in
              absurd (omega (arith, h, v))

  unique_from : (ks : List Key) → ((i j : ℕ) → i < j → j < length ks → repeats (get_or ks i []) (get_or ks j []) ≡ false) → AreUnique ks
  unique_from [] h = tt
  unique_from (k ∷ ks) h = (each ks (λ j l. h 0 (suc j) (omega arith) (omega (arith, l))), unique_from ks (λ i j a b. h (suc i) (suc j) (omega (arith, a)) (omega (arith, b))))
    where
      each : (xs : List Key) → ((j : ℕ) → j < length xs → repeats k (get_or xs j []) ≡ false) → AllByRecursion (λ other. IsFalse (repeats k other)) xs
      each [] g = tt
      each (x ∷ xs) g = (g 0 (omega arith), each xs (λ j l. g (suc j) (omega (arith, l))))

  abbrev keys : List Key
  keys = map (key_in columns) (range_with_len 0 n)

  key_is : (i : ℕ) → i < n → get_or keys i [] ≡ key_in columns i
  key_is i h = get_or-map-range_with_len (key_in columns) 0 n i i [] h (omega arith)

  not_repeated : (i j : ℕ) → i < j → j < n → ((p : ℕ) (e : ℕ) → p + 1 < length rows → repeat_at columns rows p ≡ Some (record { row = j; earlier = e }) → ⊥) → repeats (key_in columns i) (key_in columns j) ≡ false
  not_repeated i j h l never = of (repeats (key_in columns i) (key_in columns j)) refl
    where
      of : (b : Bool) → repeats (key_in columns i) (key_in columns j) ≡ b → repeats (key_in columns i) (key_in columns j) ≡ false
      of false e = e
      of true e =
          let q = both (not (has_null (key_in columns i))) (is_eq (row_rank columns i j)) e in
          let r = is_equal (row_rank columns i j) q.1 in
          let f : has_null (key_in columns i) ≡ false = not_true (has_null (key_in columns i)) q.0 in
          let (p, lp, (x, t)) = told i j h l (sym (nulls_alike columns i j r) ∙ f) r in
          absurd (never p x lp t)
        where
          not_true : (b : Bool) → not b ≡ true → b ≡ false
          not_true false g = refl
          not_true true g = absurd (false≢true g)

  pub all_unique : lowest columns rows (length rows - 1) ≡ None → AreUnique keys
  all_unique e = unique_from keys (λ i j h l.
      let m : j < n = omega (arith, l, length-map-range_with_len (key_in columns) 0 n) in
      ap₂ repeats (key_is i (omega (arith, h, m))) (key_is j m) ∙ not_repeated i j h m (λ p x lp t. some_none (record { row = j; earlier = x }) (sym t ∙ none_before columns rows (length rows - 1) p e (omega (arith, lp)))))
    where
      some_none : (g : RepeatedKey) → Some g ≡ None → ⊥
      some_none g z = absurd cc

  repeat_is : (t : Bool) (x f : RepeatedKey) → (if t then Some x else None) ≡ Some f → (t ≡ true) × (x ≡ f)
  repeat_is true x f e = (refl, some_is x f e)
  repeat_is false x f e = absurd cc

  pub first_is : (f : RepeatedKey) → lowest columns rows (length rows - 1) ≡ Some f → IsFirstRepeated keys f
  first_is f e =
      let (p, lp, t) = lowest_there columns rows (length rows - 1) f e in
      of p (omega (arith, lp)) (repeat_is _ _ f t)
    where
      of : (p : ℕ) → p + 1 < length rows
          → ((not (has_null (key_in columns (get_or rows (p + 1) 0))) && is_eq (row_rank columns (get_or rows p 0) (get_or rows (p + 1) 0))) ≡ true) × (record { row = get_or rows (p + 1) 0; earlier = get_or rows p 0 } ≡ f) → IsFirstRepeated keys f
      of p lp (t, i) =
          let q = both (not (has_null (key_in columns (get_or rows (p + 1) 0)))) (is_eq (row_rank columns (get_or rows p 0) (get_or rows (p + 1) 0))) t in
          let r = is_equal (row_rank columns (get_or rows p 0) (get_or rows (p + 1) 0)) q.1 in
          let row : get_or rows (p + 1) 0 ≡ f.row = ap (λ (x : RepeatedKey). x.row) i in
          let earlier : get_or rows p 0 ≡ f.earlier = ap (λ (x : RepeatedKey). x.earlier) i in
          let a : f.row < n = rw row at (row_below (p + 1) lp) in
          let b : f.earlier < n = rw earlier at (row_below p (omega (arith, lp))) in
          let turned : row_rank columns f.row f.earlier ≡ Equal = rw (row, earlier) at ((rows_ranked columns).antisymm (get_or rows (p + 1) 0) (get_or rows p 0) ∙ ap ordering_reverse r) in
          let full : not (has_null (key_in columns f.row)) ≡ true = rw row at q.0 in
          record {
            within = omega (arith, a, length-map-range_with_len (key_in columns) 0 n);
            earlier = rw (row, earlier) at (tied_rows (row_rank columns (get_or rows p 0) (get_or rows (p + 1) 0)) (get_or rows p 0) (get_or rows (p + 1) 0) r (before_at p (p + 1) (omega arith) lp));
            again = ap₂ repeats (key_is f.row a) (key_is f.earlier b) ∙ ap₂ (λ x o. x && is_eq o) full turned;
            first = unique_from (take f.row keys) (λ x y h l.
                let m : y < f.row = omega (arith, l, length-take-le f.row keys (omega (arith, a, length-map-range_with_len (key_in columns) 0 n))) in
                ap₂ repeats (get_or-take f.row keys x [] (omega (arith, h, m)) ∙ key_is x (omega (arith, h, m, a))) (get_or-take f.row keys y [] m ∙ key_is y (omega (arith, m, a)))
                ∙ not_repeated x y h (omega (arith, m, a)) (λ s z ls g. let k = lowest_least columns rows (length rows - 1) f (record { row = y; earlier = z }) s e (omega (arith, ls)) g in absurd (omega (arith, k, m))));
          }

unique_at : (ks : List Key) (i j : ℕ) → AreUnique ks → i < j → j < length ks → repeats (get_or ks i []) (get_or ks j []) ≡ false
unique_at [] i j u h l = absurd (omega (arith, l))
unique_at (k ∷ ks) i zero u h l = absurd (omega (arith, h))
unique_at (k ∷ ks) zero (suc j) u h l = each ks j u.0 (omega (arith, l))
  where
    each : (xs : List Key) (m : ℕ) → AllByRecursion (λ other. IsFalse (repeats k other)) xs → m < length xs → repeats k (get_or xs m []) ≡ false
    each [] m all g = absurd (omega (arith, g))
    each (x ∷ xs) zero all g = all.0
    each (x ∷ xs) (suc m) all g = each xs m all.1 (omega (arith, g))
unique_at (k ∷ ks) (suc i) (suc j) u h l = unique_at ks i j u.1 (omega (arith, h)) (omega (arith, l))

-- rows among those that do not repeat a key
module _ (columns : List CellList) (rows : List ℕ) (n : ℕ) (same : IsPermutation (range_with_len 0 n) rows) (rising : AreRising (map (entry_in columns) rows)) where
  pub old_apart : (old p : ℕ) → AreUnique (take old (map (key_in columns) (range_with_len 0 n))) → p + 1 < length rows → get_or rows (p + 1) 0 < old → repeat_at columns rows p ≡ None
  old_apart old p once lp h = of _ refl
    where
      never : (earlier row : ℕ) → earlier ≡ get_or rows p 0 → row ≡ get_or rows (p + 1) 0 → (not (has_null (key_in columns row)) && is_eq (row_rank columns earlier row)) ≡ true → ⊥
      never earlier row e f t =
          let q = both (not (has_null (key_in columns row))) (is_eq (row_rank columns earlier row)) t in
          let r = is_equal (row_rank columns earlier row) q.1 in
          let l : row < old = omega (arith, h, f) in
          let m : row < n = rw (sym f) at (row_below columns rows n same rising (p + 1) lp) in
          let b : earlier < row = tied_rows (row_rank columns earlier row) earlier row r (rw (sym e, sym f) at (before_at columns rows n same rising p (p + 1) (omega arith) lp)) in
          let ks = map (key_in columns) (range_with_len 0 n) in
          let long : length ks ≡ n = length-map-range_with_len (key_in columns) 0 n in
          let k : row < length (take old ks) = taken_there row old ks l (omega (arith, m, long)) in
          let a : get_or (take old ks) earlier [] ≡ key_in columns earlier = get_or-take old ks earlier [] (omega (arith, b, l)) ∙ key_is columns rows n same rising earlier (omega (arith, b, m)) in
          let c : get_or (take old ks) row [] ≡ key_in columns row = get_or-take old ks row [] l ∙ key_is columns rows n same rising row m in
          let u : repeats (key_in columns earlier) (key_in columns row) ≡ false = rw (a, c) at (unique_at (take old ks) earlier row once b k) in
          let full : not (has_null (key_in columns earlier)) ≡ true = ap not (nulls_alike columns earlier row r) ∙ q.0 in
          false≢true (sym u ∙ ap₂ (λ x y. x && y) full q.1)
        where
          taken_there : (i m : ℕ) (xs : List Key) → i < m → i < length xs → i < length (take m xs)
          taken_there i m [] g l = absurd (omega (arith, l))
          taken_there i zero (x ∷ xs) g l = absurd (omega (arith, g))
          taken_there zero (suc m) (x ∷ xs) g l = omega arith
          taken_there (suc i) (suc m) (x ∷ xs) g l = let s = taken_there i m xs (omega (arith, g)) (omega (arith, l)) in omega (arith, s)

      of : (b : Bool) → (not (has_null (key_in columns (get_or rows (p + 1) 0))) && is_eq (row_rank columns (get_or rows p 0) (get_or rows (p + 1) 0))) ≡ b → repeat_at columns rows p ≡ None
      of true t = absurd (never (get_or rows p 0) (get_or rows (p + 1) 0) refl refl t)
      of false t = rw t refl

pub if_found : {P : RepeatedKey → Type 0} (o : Option RepeatedKey) → ((f : RepeatedKey) → o ≡ Some f → P f) → IfSome o P
if_found None h = tt
if_found (Some f) h = h f refl

pub if_none : (o : Option RepeatedKey) → IsNone o → o ≡ None
if_none None h = refl
if_none (Some f) h = absurd cc
