-- Rows in the order of their keys.
use Rattle.std.proofs.Common.{◌≡◌, ◌≢◌, ◌∙◌, refl, sym, ap, ℕ, zero, suc, ◌+◌, ◌-◌, ◌<◌, ◌≤◌, List, [], ◌∷◌, ◌++◌, Bool, true, false, length, map, get_or, nat_eq, arith}
use Rattle.std.specs.Prelude.{IsPermutation, IsTrue}
use Rattle.std.specs.List.{AllByRecursion, IsDistinct, range_with_len}
use Rattle.std.specs.List.Sorted.{IsSortedBy}
use Rattle.std.specs.Cmp.{IsStrictWeakOrder}
use Rattle.std.proofs.lemmas.Bool.{false≢true}
use Rattle.std.proofs.lemmas.Bool.Decides.{nat_tests}
use Rattle.std.proofs.lemmas.List.Sorted.{sorted_far, ranks_by, IsPermutation-append, All-permutation}
use Rattle.std.proofs.lemmas.List.Elements.{All-from_recursion, recursion_from_All}
use Rattle.std.proofs.lemmas.Map.Keys.{IsDistinct-IsPermutation}
use Rattle.std.specs.Ordering.{nat_cmp, ordering_then, ordering_reverse, is_lt}
use Rattle.std.specs.declared.cmp.Ordering.{Ordering}
use Rattle.std.specs.declared.cmp.Ordering.TheVariants.{Less, Equal, Greater}
use Rattle.definitions.specs.IndexRun.{AreRising, comes_before}
use Rattle.columns.specs.Cells.{CellList}
use Rattle.indexes.specs.Keys.{entry_in}
use Rattle.indexes.specs.Merging.{AreEarlier}
use Rattle.indexes.proofs.KeyOrder.{row_rank, row_order, rows_ordered}

abbrev pub stands_before : List CellList → ℕ → ℕ → Bool
stands_before columns a b = is_lt (row_order columns a b)

pub standing : (columns : List CellList) → IsStrictWeakOrder (stands_before columns)
standing columns = ranks_by (rows_ordered columns) (λ x. x)

pub rising_from : (columns : List CellList) (rows : List ℕ) → ((i j : ℕ) → i < j → j < length rows → stands_before columns (get_or rows i 0) (get_or rows j 0) ≡ true) → AreRising (map (entry_in columns) rows)
rising_from columns [] h = tt
rising_from columns (r ∷ rs) h = (each rs (λ j l. h 0 (suc j) (omega arith) (omega (arith, l))), rising_from columns rs (λ i j k l. h (suc i) (suc j) (omega (arith, k)) (omega (arith, l))))
  where
    each : (xs : List ℕ) → ((j : ℕ) → j < length xs → stands_before columns r (get_or xs j 0) ≡ true) → AllByRecursion (λ other. IsTrue (comes_before (entry_in columns r) other)) (map (entry_in columns) xs)
    each [] k = tt
    each (x ∷ xs) k = (k 0 (omega arith), each xs (λ j l. k (suc j) (omega (arith, l))))

-- ---- no row comes twice

range_above : (x a n : ℕ) → x < a → AllByRecursion (λ y. nat_eq x y ≡ false) (range_with_len a n)
range_above x a zero h = tt
range_above x a (suc n) h = (grind (arith, nat_tests), range_above x (a + 1) n (omega (arith, h)))

range_distinct : (a n : ℕ) → IsDistinct nat_eq (range_with_len a n)
unfolding IsDistinct
range_distinct a zero = tt
range_distinct a (suc n) = (range_above a (a + 1) n (omega arith), range_distinct (a + 1) n)

pub flips : (x y : ℕ) → nat_eq x y ≡ nat_eq y x
flips x y = grind (arith, nat_tests)

pub distinct_at : (rows : List ℕ) (i j : ℕ) → IsDistinct nat_eq rows → i < j → j < length rows → nat_eq (get_or rows i 0) (get_or rows j 0) ≡ false
unfolding IsDistinct
distinct_at [] i j d h l = absurd (omega (arith, l))
distinct_at (r ∷ rs) i zero d h l = absurd (omega (arith, h))
distinct_at (r ∷ rs) zero (suc j) (first, d) h l = each rs j first (omega (arith, l))
  where
    each : (xs : List ℕ) (k : ℕ) → AllByRecursion (λ y. nat_eq r y ≡ false) xs → k < length xs → nat_eq r (get_or xs k 0) ≡ false
    each [] k all m = absurd (omega (arith, m))
    each (x ∷ xs) zero (here, rest) m = here
    each (x ∷ xs) (suc k) (here, rest) m = each xs k rest (omega (arith, m))
distinct_at (r ∷ rs) (suc i) (suc j) (first, d) h l = distinct_at rs i j d (omega (arith, h)) (omega (arith, l))

-- ---- what a sort makes

order_apart : (o : Ordering) (x y : ℕ) → ordering_then o (nat_cmp x y) ≡ Equal → nat_eq x y ≡ true
order_apart Less x y e = absurd cc
order_apart Greater x y e = absurd cc
order_apart Equal x y e = of (nat_eq x y) refl
  where
    of : (b : Bool) → nat_eq x y ≡ b → nat_eq x y ≡ true
    of true k = k
    of false k = absurd (unequal x y k e)
      where
        unequal : (a b : ℕ) → nat_eq a b ≡ false → nat_cmp a b ≢ Equal
        unequal a b f g = grind (arith, nat_tests)

pub comes_first : (columns : List CellList) (x y : ℕ) → stands_before columns y x ≡ false → nat_eq x y ≡ false → stands_before columns x y ≡ true
comes_first columns x y h d = of (row_order columns x y) refl
  where
    of : (o : Ordering) → row_order columns x y ≡ o → stands_before columns x y ≡ true
    of Less e = ap is_lt e
    of Equal e = absurd (false≢true (sym d ∙ order_apart (row_rank columns x y) x y e))
    of Greater e = absurd (false≢true (sym h ∙ ap is_lt ((rows_ordered columns).antisymm y x ∙ ap ordering_reverse e)))

pub permuted_range : (first n : ℕ) (xs ys : List ℕ) → xs ≡ range_with_len first n → IsPermutation xs ys → IsPermutation (range_with_len first n) ys
permuted_range first n xs ys e p = rw e at p

pub sorted_rising : (columns : List CellList) (first n : ℕ) (rows : List ℕ) → IsPermutation (range_with_len first n) rows → IsSortedBy (stands_before columns) rows → AreRising (map (entry_in columns) rows)
sorted_rising columns first n rows p s =
    let d = IsDistinct-IsPermutation nat_eq flips (range_with_len first n) rows p (range_distinct first n) in
    rising_from columns rows (λ i j h l. comes_first columns (get_or rows i 0) (get_or rows j 0) (sorted_far (stands_before columns) (standing columns) rows s i j 0 (omega (arith, h)) l) (distinct_at rows i j d h l))

range_joined : (a m n : ℕ) → range_with_len a m ++ range_with_len (a + m) n ≡ range_with_len a (m + n)
range_joined a zero n = let e : a + 0 ≡ a = omega arith in let f : 0 + n ≡ n = omega arith in rw (e, f) refl
range_joined a (suc m) n =
    let e : a + suc m ≡ a + 1 + m = omega arith in
    let f : suc m + n ≡ suc (m + n) = omega arith in
    rw (e, f) (ap (λ rs. a ∷ rs) (range_joined (a + 1) m n))

pub all_rows_there : (old further : List ℕ) (n : ℕ) → IsPermutation (range_with_len 0 (length old)) old → length old ≤ n → IsPermutation (range_with_len (length old) (n - length old)) further → IsPermutation (range_with_len 0 n) (old ++ further)
all_rows_there old further n p h q =
    let m = length old in
    let a : m + (n - m) ≡ n = omega (arith, h) in
    let z : 0 + m ≡ m = omega arith in
    let j : range_with_len 0 m ++ range_with_len m (n - m) ≡ range_with_len 0 n = ap (λ k. range_with_len 0 m ++ range_with_len k (n - m)) (sym z) ∙ range_joined 0 m (n - m) ∙ ap (range_with_len 0) a in
    rw (← j) (IsPermutation-append (range_with_len 0 m) old (range_with_len m (n - m)) further p q)

-- ---- the first rows of a table come before the others

each_within : (from to a n : ℕ) → from ≤ a → a + n ≤ to → AllByRecursion (λ x. (from ≤ x) × (x < to)) (range_with_len a n)
each_within from to a zero h l = tt
each_within from to a (suc n) h l = ((h, omega (arith, l)), each_within from to (a + 1) n (omega (arith, h)) (omega (arith, l)))

within_at : (from to : ℕ) (rows : List ℕ) (i : ℕ) → AllByRecursion (λ x. (from ≤ x) × (x < to)) rows → i < length rows → (from ≤ get_or rows i 0) × (get_or rows i 0 < to)
within_at from to [] i all h = absurd (omega (arith, h))
within_at from to (x ∷ rows) zero all h = all.0
within_at from to (x ∷ rows) (suc i) all h = within_at from to rows i all.1 (omega (arith, h))

row_within : (first n : ℕ) (rows : List ℕ) (i : ℕ) → IsPermutation (range_with_len first n) rows → i < length rows → (first ≤ get_or rows i 0) × (get_or rows i 0 < first + n)
row_within first n rows i p h =
    let P : ℕ → Type 0 = λ x. (first ≤ x) × (x < first + n) in
    within_at first (first + n) rows i (recursion_from_All P rows (All-permutation P (range_with_len first n) rows p (All-from_recursion P (range_with_len first n) (each_within first (first + n) first n (omega arith) (omega arith))))) h

pub rows_earlier : (old further : List ℕ) (n : ℕ) → IsPermutation (range_with_len 0 (length old)) old → IsPermutation (range_with_len (length old) (n - length old)) further → AreEarlier old further
rows_earlier old further n p q i j h l =
    let a = row_within 0 (length old) old i p h in
    let b = row_within (length old) (n - length old) further j q l in
    let below = a.1 in
    let above = b.0 in
    omega (arith, below, above)

pub one_behind : (first : ℕ) (rows rows' : List ℕ) (row next v : ℕ) → first ≤ row → rows ≡ range_with_len first (row - first) → rows' ≡ rows ++ v ∷ [] → v ≡ row → next ≡ row + 1 → rows' ≡ range_with_len first (next - first)
one_behind first rows rows' row next v h e f g n =
    let k : row - first + 1 ≡ next - first = omega (arith, h, n) in
    let l : first + (row - first) ≡ v = omega (arith, h, g) in
    f ∙ ap (λ xs. xs ++ v ∷ []) e ∙ ap (λ x. range_with_len first (row - first) ++ x ∷ []) (sym l) ∙ range_joined first (row - first) 1 ∙ ap (range_with_len first) k
