-- Composites packed and unpacked.
use Rattle.std.proofs.Common.{◌≡◌, ◌≢◌, ◌∙◌, refl, sym, ap, ap₂, subst, ◌⊎◌, inl, inr, ℕ, zero, suc, ◌+◌, ◌-◌, ◌<◌, ◌≤◌, List, [], ◌∷◌, ◌++◌, Bool, true, false, cond, filter, length, map, get_or, set, take, drop, replicate, nat_eq, nat_lt, append_assoc, arith}
use Rattle.std.specs.List.{range_with_len, AllByRecursion}
use Rattle.std.proofs.lemmas.Bool.Decides.{nat_tests}
use Rattle.std.proofs.lemmas.List.{drop_more, drop-drop, get_or-drop, get_or_past, append-nil, get_or-replicate, get_or-set_other, get_or-set_same, length-map, length-replicate, length-set, length-take-le, map-id, map_more, set_at, take_all}
use Rattle.std.proofs.lemmas.List.FromFn.{fill_by_all, filter_of_map_range_with_len_more, get_or-map-range_with_len, length-map-range_with_len, length-range_with_len, map-range_with_len_more}
use Rattle.definitions.specs.Plans.TableSet.{TableSet}
use Rattle.definitions.specs.Estimates.BlockTables.{has}
use Rattle.definitions_execution.specs.Lists.{In}
use Rattle.definitions_execution.specs.Stored.{Composite, row_number}
use Rattle.definitions_execution.proofs.Members.{in_filter, from_filter}
use Rattle.tuple_sort.specs.CompositeLists.{IsCompositeOf}
use Rattle.tuple_sort.specs.Keeping.{single}
use Rattle.tuple_sort.specs.Packing.{packed, row_in, tables_in, unpacked}

-- ---- the row of a table among packed ones

pub row_from : (members rows : List ℕ) (table place : ℕ) → place < length members
    → row_in (drop place members) (drop place rows) table ≡ cond (nat_eq (get_or members place 0) table) (get_or rows place 0) (row_in (drop (place + 1) members) (drop (place + 1) rows) table)
row_from members rows table place h =
    let first : get_or (drop place rows) 0 0 ≡ get_or rows place 0 = get_or-drop place rows 0 0 ∙ ap (λ n. get_or rows n 0) (omega arith) in
    let others : drop 1 (drop place rows) ≡ drop (place + 1) rows = drop-drop 1 place rows in
    rw (drop_more members place 0 h) (ap₂ (λ r rs. cond (nat_eq (get_or members place 0) table) r (row_in (drop (place + 1) members) rs table)) first others)

pub row_here : (members rows : List ℕ) (table place r : ℕ) → place < length members → nat_eq (get_or members place 0) table ≡ true → row_in (drop place members) (drop place rows) table ≡ r → get_or rows place 0 ≡ r
row_here members rows table place r h e k =
    sym (row_from members rows table place h ∙ ap (λ b. cond b (get_or rows place 0) (row_in (drop (place + 1) members) (drop (place + 1) rows) table)) e) ∙ k

pub row_later : (members rows : List ℕ) (table place r : ℕ) → place < length members → nat_eq (get_or members place 0) table ≡ false → row_in (drop place members) (drop place rows) table ≡ r → row_in (drop (place + 1) members) (drop (place + 1) rows) table ≡ r
row_later members rows table place r h e k =
    sym (row_from members rows table place h ∙ ap (λ b. cond b (get_or rows place 0) (row_in (drop (place + 1) members) (drop (place + 1) rows) table)) e) ∙ k

-- ---- a list is filled from the front on

pub next_set : (xs : List ℕ) (i n m v : ℕ) → length xs ≡ i → suc m ≡ n → set (xs ++ replicate n 0) i v ≡ (xs ++ v ∷ []) ++ replicate m 0
next_set xs i n m v e k = sym (ap (λ j. set (xs ++ replicate j 0) i v) k) ∙ set_at xs 0 (replicate m 0) v i e ∙ sym (append_assoc xs (v ∷ []) (replicate m 0))

pub next_packed : (f : ℕ → ℕ) (members rows rows' : List ℕ) (place room v : ℕ) → place < length members → length members ≤ room → rows ≡ map f (take place members) ++ replicate (room - place) 0
    → v ≡ f (get_or members place 0) → rows' ≡ set rows place v → rows' ≡ map f (take (place + 1) members) ++ replicate (room - (place + 1)) 0
next_packed f members rows rows' place room v h k e is e' =
    let long : length (map f (take place members)) ≡ place = length-map (take place members) f ∙ length-take-le place members (omega (arith, h)) in
    let n : suc (room - (place + 1)) ≡ room - place = omega (arith, h, k) in
    e' ∙ ap₂ (λ xs w. set xs place w) e is ∙ next_set (map f (take place members)) place (room - place) (room - (place + 1)) (f (get_or members place 0)) long n ∙ ap (λ xs. xs ++ replicate (room - (place + 1)) 0) (sym (map_more f members place 0 h))

pub all_packed : (f : ℕ → ℕ) (members rows : List ℕ) (place room : ℕ) → length members ≤ place → place ≤ length members → rows ≡ map f (take place members) ++ replicate (room - place) 0 → rows ≡ map f members ++ replicate (room - length members) 0
all_packed f members rows place room h k e =
    let same : place ≡ length members = omega (arith, h, k) in
    e ∙ ap₂ (λ xs n. map f xs ++ replicate (room - n) 0) (take_all place members h) same

pub next_unpacked : (f : ℕ → ℕ) (numbers numbers' : List ℕ) (table width v : ℕ) → table < width → numbers ≡ map f (range_with_len 0 table) ++ replicate (width - table) 0
    → v ≡ f table → numbers' ≡ set numbers table v → numbers' ≡ map f (range_with_len 0 (table + 1)) ++ replicate (width - (table + 1)) 0
next_unpacked f numbers numbers' table width v h e is e' =
    let n : suc (width - (table + 1)) ≡ width - table = omega (arith, h) in
    e' ∙ ap₂ (λ xs w. set xs table w) e is ∙ next_set (map f (range_with_len 0 table)) table (width - table) (width - (table + 1)) (f table) (length-map-range_with_len f 0 table) n
    ∙ ap (λ xs. xs ++ replicate (width - (table + 1)) 0) (sym (map-range_with_len_more f 0 table table (omega arith)))

pub all_unpacked : (f : ℕ → ℕ) (numbers : List ℕ) (table width : ℕ) → width ≤ table → table ≤ width → numbers ≡ map f (range_with_len 0 table) ++ replicate (width - table) 0 → numbers ≡ map f (range_with_len 0 width)
all_unpacked f numbers table width h k e =
    let same : table ≡ width = omega (arith, h, k) in
    let none : width - table ≡ 0 = omega (arith, h) in
    e ∙ ap₂ (λ t n. map f (range_with_len 0 t) ++ replicate n 0) same none ∙ append-nil (map f (range_with_len 0 width))

-- ---- what is packed and unpacked is the same

row_packed : (f : ℕ → ℕ) (members rest : List ℕ) (table : ℕ) → In table members ⊎ (f table ≡ 0) → row_in members (map f members ++ rest) table ≡ f table
row_packed f [] rest table (inl i) = absurd i
row_packed f [] rest table (inr n) = sym n
row_packed f (m ∷ ms) rest table h = of (nat_eq m table) refl h (λ k. row_packed f ms rest table k)
  where
    later : nat_eq m table ≡ false → In table (m ∷ ms) ⊎ (f table ≡ 0) → In table ms ⊎ (f table ≡ 0)
    later e (inl (inl same)) = absurd (grind (arith, nat_tests, e, same))
    later e (inl (inr i)) = inl i
    later e (inr n) = inr n

    of : (b : Bool) → nat_eq m table ≡ b → In table (m ∷ ms) ⊎ (f table ≡ 0) → (In table ms ⊎ (f table ≡ 0) → row_in ms (map f ms ++ rest) table ≡ f table)
        → cond (nat_eq m table) (f m) (row_in ms (map f ms ++ rest) table) ≡ f table
    of true e k others = let same : m ≡ table = grind (arith, nat_tests, e) in rw e (ap f same)
    of false e k others = rw e (others (later e k))

in_range : (a n t : ℕ) → a ≤ t → t < a + n → In t (range_with_len a n)
in_range a zero t h k = absurd (omega (arith, h, k))
in_range a (suc n) t h k = of (nat_eq a t) refl (λ l m. in_range (a + 1) n t l m)
  where
    of : (b : Bool) → nat_eq a t ≡ b → (a + 1 ≤ t → t < a + 1 + n → In t (range_with_len (a + 1) n)) → In t (a ∷ range_with_len (a + 1) n)
    of true e later = inl (grind (arith, nat_tests, e))
    of false e later = inr (later (grind (arith, nat_tests, e, h)) (omega (arith, k)))

below : (a n t : ℕ) → In t (range_with_len a n) → t < a + n
below a zero t i = absurd i
below a (suc n) t (inl e) = omega (arith, e)
below a (suc n) t (inr i) = let h = below (a + 1) n t i in omega (arith, h)

no_row : (members rows : List ℕ) (table : ℕ) → (In table members → ⊥) → row_in members rows table ≡ 0
no_row [] rows table out = refl
no_row (m ∷ ms) rows table out = of (nat_eq m table) refl (no_row ms (drop 1 rows) table (λ i. out (inr i)))
  where
    of : (b : Bool) → nat_eq m table ≡ b → row_in ms (drop 1 rows) table ≡ 0 → cond (nat_eq m table) (get_or rows 0 0) (row_in ms (drop 1 rows) table) ≡ 0
    of true e later = absurd (out (inl (grind (arith, nat_tests, e))))
    of false e later = rw e later

module _ (tables : TableSet) (width : ℕ) where
  row_of_member : (composite : Composite) (rest : List ℕ) (table : ℕ) → IsCompositeOf tables width composite → table < width
      → row_in (tables_in tables width) (map (row_number composite) (tables_in tables width) ++ rest) table ≡ row_number composite table
  row_of_member composite rest table is h = row_packed (row_number composite) (tables_in tables width) rest table (of (has tables table) refl)
    where
      of : (b : Bool) → has tables table ≡ b → In table (tables_in tables width) ⊎ (row_number composite table ≡ 0)
      of true e = inl (in_filter (has tables) table (range_with_len 0 width) (in_range 0 width table (omega arith) (omega (arith, h))) e)
      of false e = inr (is.others table h e)

  -- packed and unpacked again
  pub kept_whole : (composite : Composite) (room : ℕ) → IsCompositeOf tables width composite
      → unpacked width (tables_in tables width) (packed room (tables_in tables width) composite) ≡ composite
  kept_whole composite room is =
      sym (fill_by_all (row_in (tables_in tables width) (packed room (tables_in tables width) composite)) composite width 0 is.long (λ k h. sym (row_of_member composite (replicate (room - length (tables_in tables width)) 0) k is h)))

  -- the row of a table is the same before it is unpacked
  pub row_unpacked : (rows : List ℕ) (table : ℕ) → row_number (unpacked width (tables_in tables width) rows) table ≡ row_in (tables_in tables width) rows table
  row_unpacked rows table = of (nat_lt table width) refl
    where
      of : (b : Bool) → nat_lt table width ≡ b → row_number (unpacked width (tables_in tables width) rows) table ≡ row_in (tables_in tables width) rows table
      of true e = get_or-map-range_with_len (row_in (tables_in tables width) rows) 0 width table table 0 (grind (arith, nat_tests, e)) (omega arith)
      of false e =
          let past : width ≤ table = grind (arith, nat_tests, e) in
          get_or_past (unpacked width (tables_in tables width) rows) table 0 (subst (λ n. n ≤ table) (sym (length-map-range_with_len (row_in (tables_in tables width) rows) 0 width)) past)
          ∙ sym (no_row (tables_in tables width) rows table (λ i. not_in past (from_filter (has tables) table (range_with_len 0 width) i).0))
        where
          not_in : width ≤ table → In table (range_with_len 0 width) → ⊥
          not_in h i = let k = below 0 width table i in omega (arith, h, k)

-- ---- rows of a single table

-- nothing but the row of a table, unpacked
pub single_unpacked : (width table row : ℕ) → set (replicate width 0) table row ≡ unpacked width (table ∷ []) (row ∷ [])
single_unpacked width table row =
    fill_by_all (row_in (table ∷ []) (row ∷ [])) (set (replicate width 0) table row) width 0 (length-set (replicate width 0) table row ∙ length-replicate width 0) (λ k h. of k h (nat_eq table k) refl)
  where
    of : (k : ℕ) → k < width → (b : Bool) → nat_eq table k ≡ b → get_or (set (replicate width 0) table row) k 0 ≡ cond (nat_eq table k) row 0
    of k h true e =
        let same : table ≡ k = grind (arith, nat_tests, e) in
        let within : k < length (replicate width 0) = omega (arith, h, length-replicate {A = ℕ} width 0) in
        rw e (subst (λ t. get_or (set (replicate width 0) t row) k 0 ≡ row) (sym same) (get_or-set_same (replicate width 0) k row 0 within))
    of k h false e =
        let other : k ≢ table = λ same. absurd (grind (arith, nat_tests, e, same)) in
        rw e (get_or-set_other (replicate width 0) table k row 0 other ∙ get_or-replicate width k 0 0 h)

pub singles_unpacked : (width table : ℕ) (members rows : List ℕ) → members ≡ table ∷ [] → map (unpacked width members) (map single rows) ≡ map (λ row. set (replicate width 0) table row) rows
singles_unpacked width table members [] one = refl
singles_unpacked width table members (row ∷ rows) one =
    ap₂ (λ c cs. c ∷ cs) (ap (λ ms. unpacked width ms (row ∷ [])) one ∙ sym (single_unpacked width table row)) (singles_unpacked width table members rows one)

-- composites of one table are their rows
module _ (tables : TableSet) (width table : ℕ) (one : tables_in tables width ≡ table ∷ []) where
  single_whole : (composite : Composite) → IsCompositeOf tables width composite → set (replicate width 0) table (row_number composite table) ≡ composite
  single_whole composite is = single_unpacked width table (row_number composite table) ∙ subst (λ ms. unpacked width ms (packed 1 ms composite) ≡ composite) one (kept_whole tables width composite 1 is)

  pub single_within : table < width
  single_within =
      let at : In table (tables_in tables width) = subst (λ ts. In table ts) (sym one) (inl refl) in
      let less = below 0 width table (from_filter (has tables) table (range_with_len 0 width) at).0 in
      omega (arith, less)

  pub singles_whole : (composites : List Composite) → AllByRecursion (IsCompositeOf tables width) composites
      → map (λ row. set (replicate width 0) table row) (map (λ (composite : Composite). row_number composite table) composites) ≡ composites
  singles_whole [] are = refl
  singles_whole (composite ∷ composites) are = ap₂ (λ c cs. c ∷ cs) (single_whole composite are.0) (singles_whole composites are.1)

-- ---- the tables of a set, one after another

one_more : (tables : TableSet) (table : ℕ) → tables_in tables (table + 1) ≡ tables_in tables table ++ cond (has tables table) (table ∷ []) []
one_more tables table =
    let m = λ (n : ℕ). map-id (range_with_len 0 n) in
    ap (filter (has tables)) (sym (m (table + 1))) ∙ filter_of_map_range_with_len_more (has tables) (λ n. n) 0 table table (omega arith) ∙ ap (λ xs. filter (has tables) xs ++ cond (has tables table) (table ∷ []) []) (m table)

pub next_member : (tables : TableSet) (members members' : List ℕ) (table : ℕ) → has tables table ≡ true → members ≡ tables_in tables table → members' ≡ members ++ table ∷ [] → members' ≡ tables_in tables (table + 1)
next_member tables members members' table h e e' = e' ∙ ap (λ xs. xs ++ table ∷ []) e ∙ ap (λ b. tables_in tables table ++ cond b (table ∷ []) []) (sym h) ∙ sym (one_more tables table)

pub next_other : (tables : TableSet) (members members' : List ℕ) (table : ℕ) → has tables table ≡ false → members ≡ tables_in tables table → members' ≡ members → members' ≡ tables_in tables (table + 1)
next_other tables members members' table h e e' = e' ∙ e ∙ sym (append-nil (tables_in tables table)) ∙ ap (λ b. tables_in tables table ++ cond b (table ∷ []) []) (sym h) ∙ sym (one_more tables table)

-- there are no more of them than tables
length-filter-le : (p : ℕ → Bool) (xs : List ℕ) → length (filter p xs) ≤ length xs
length-filter-le p [] = omega arith
length-filter-le p (x ∷ xs) = of (p x) (length-filter-le p xs)
  where
    of : (b : Bool) → length (filter p xs) ≤ length xs → length (cond b (x ∷ filter p xs) (filter p xs)) ≤ length (x ∷ xs)
    of true h = omega (arith, h)
    of false h = omega (arith, h)

pub few_members : (tables : TableSet) (width n : ℕ) (members : List ℕ) → members ≡ tables_in tables width → n ≡ length members → width ≤ 14 → n ≤ 14
few_members tables width n members e is h =
    let most : length (tables_in tables width) ≤ width = subst (λ k. length (tables_in tables width) ≤ k) (length-range_with_len 0 width) (length-filter-le (has tables) (range_with_len 0 width)) in
    let same : n ≡ length (tables_in tables width) = is ∙ ap length e in
    omega (arith, h, most, same)
