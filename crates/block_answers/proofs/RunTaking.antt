-- Rows of one group, taken in together.
use Rattle.std.proofs.Common.{◌≡◌, ◌∙◌, refl, sym, ap, ap₂, subst, ℕ, zero, suc, ◌+◌, ◌-◌, ◌<◌, ◌≤◌, List, [], ◌∷◌, ◌++◌, true, Option, Some, None, append_assoc, arith, get_or, length, map, take, drop, true≢false}
use Rattle.std.specs.Prelude.{◌&&◌, ℤ}
use Rattle.std.specs.Cmp.{int_cmp_total, tied_itself}
use Rattle.std.specs.List.{AllByRecursion}
use Rattle.std.proofs.lemmas.List.{append-nil, drop_more, get_or-drop, map-append, drop-map, take-map, take-append-drop}
use Rattle.std.specs.Ordering.{is_eq}
use Rattle.definitions.specs.Value.{Value, Number, rank}
use Rattle.sqlvalue.proofs.NumberKeys.{of_one_scale}
use Rattle.definitions.specs.Queries.Grouping.{same_value}
use Rattle.query_tree.specs.Bound.{column_of}
use Rattle.query_tree.specs.declared.leaf.BlockColumn as bound
use Rattle.definitions_execution.specs.Stored.{row_number}
use Rattle.filters.proofs.Cells.{cell_there, value_there}
use Rattle.result_lines.specs.Batches.{column_values}
use Rattle.definitions.specs.Plans.Order.{BlockColumn}
use Rattle.definitions.specs.Queries.BoundBlock.{Block}
use Rattle.definitions.specs.Queries.Combinations.{at}
use Rattle.definitions.specs.Queries.Evaluation.{Combination, Environment, cell}
use Rattle.definitions_execution.specs.OfBlock.{combination_of}
use Rattle.definitions_execution.specs.Stored.{Composite}
use Rattle.definitions_execution.specs.TypedCombinations.{IsTypedCombination}
use Rattle.definitions_answers.specs.Groups.{in_one_group}
use Rattle.definitions_answers.proofs.Taken.{all_joined}
use Rattle.filters.specs.Composites.{numbers_in}
use Rattle.filters.specs.declared.composite.Composite as code
use Rattle.filters.specs.Sources.{BlockSource, block_in, context_in}
use Rattle.grouping.specs.Groups.{functions_of, AreOf}
use Rattle.block_answers.specs.Cut.{IsCutInto}
use Rattle.block_answers.specs.Groups.{environments, seen, AreGroupsOf, AreRowsOf, AreTyped, IsOpen, IsOpenOf, IsWell}
use Rattle.block_answers.specs.Runs.{between, combination_at, combinations_at, is_in, AreIn, TakeRun, TakesRun}
use Rattle.block_answers.specs.declared.group_rows.Groups.{Groups}
use Rattle.block_answers.specs.declared.group_rows.OpenGroup.{OpenGroup}
use Rattle.result_rows.specs.declared.row_store.RowStore.{RowStore}
use Rattle.block_answers.proofs.Cuts.{cut_goes_on, Begins}

-- a number ranks as itself
pub same_number : (value own : Value) (units : ℤ) (m n : ℕ) → value ≡ Number units m → own ≡ Number units n → m ≡ n → is_eq (rank value own) ≡ true
same_number value own units m n v o e = rw (v, o) (ap is_eq (sym (of_one_scale units units m n e) ∙ tied_itself int_cmp_total units))

-- ---- parts of lists

first_all : {X : Type 0} (P : X → Type 0) (d : X) (n : ℕ) (xs : List X) → n ≤ length xs → ((k : ℕ) → k < n → P (get_or xs k d)) → AllByRecursion P (take n xs)
first_all P d zero xs l h = tt
first_all P d (suc n) [] l h = absurd (omega (arith, l))
first_all P d (suc n) (x ∷ xs) l h = (h 0 (omega arith), first_all P d n xs (omega (arith, l)) (λ k m. h (suc k) (omega (arith, m))))

long_behind : {X : Type 0} (n : ℕ) (xs : List X) → length (drop n xs) ≡ length xs - n
long_behind zero xs = omega arith
long_behind (suc n) [] = omega arith
long_behind (suc n) (x ∷ xs) = let rest = long_behind n xs in omega (arith, rest)

pub between_all : {X : Type 0} (P : X → Type 0) (d : X) (first end : ℕ) (xs : List X) → end ≤ length xs → ((k : ℕ) → first ≤ k → k < end → P (get_or xs k d)) → AllByRecursion P (between first end xs)
between_all P d first end xs l h =
    let long = long_behind first xs in
    first_all P d (end - first) (drop first xs) (omega (arith, long, l)) (λ k m. subst P (sym (get_or-drop first xs k d)) (h (first + k) (omega arith) (omega (arith, m))))

all_mapped : {X Y : Type 0} (P : Y → Type 0) (f : X → Y) (xs : List X) → AllByRecursion (λ x. P (f x)) xs → AllByRecursion P (map f xs)
all_mapped P f [] h = tt
all_mapped P f (x ∷ xs) h = (h.0, all_mapped P f xs h.1)

part_behind : {X : Type 0} (first end : ℕ) (xs : List X) → first ≤ end → take first xs ++ between first end xs ≡ take end xs
part_behind zero end xs l = ap (λ n. take n xs) (let same : end - 0 ≡ end = omega arith in same)
part_behind (suc first) end [] l = nothing end (end - suc first)
  where
    nothing : {X : Type 0} (m n : ℕ) → take n [] ≡ take {A = X} m []
    nothing zero zero = refl
    nothing zero (suc n) = refl
    nothing (suc m) zero = refl
    nothing (suc m) (suc n) = refl
part_behind (suc first) zero (x ∷ xs) l = absurd (omega (arith, l))
part_behind (suc first) (suc end) (x ∷ xs) l =
    ap (λ ys. x ∷ ys) (ap (λ n. take first xs ++ take n (drop first xs)) (let same : suc end - suc first ≡ end - first = omega arith in same) ∙ part_behind first end xs (omega (arith, l)))

pub one_between : {X : Type 0} (place : ℕ) (xs : List X) (d : X) → place < length xs → between place (place + 1) xs ≡ get_or xs place d ∷ []
one_between place xs d l =
    ap (λ n. take n (drop place xs)) (let one : place + 1 - place ≡ 1 = omega arith in one)
    ∙ ap (take 1) (drop_more xs place d l)

module _ (source : BlockSource) (outer : List Combination) where
  abbrev b : Block
  b = block_in source

  abbrev Typed : Combination → Type 0
  Typed = IsTypedCombination source.database b

  abbrev combos : List Composite → List Combination
  combos = combinations_at source outer

  -- ---- combinations of a batch

  pub some_more : (cs : List Combination) (items : List Composite) (first end : ℕ) → first ≤ end → (cs ++ combos (take first items)) ++ combos (between first end items) ≡ cs ++ combos (take end items)
  some_more cs items first end l =
      append_assoc cs (combos (take first items)) (combos (between first end items))
      ∙ ap (λ ds. cs ++ ds) (sym (map-append (combination_at source outer) (take first items) (between first end items)) ∙ ap combos (part_behind first end items l))

  pub all_with_rest : (cs : List Combination) (items : List Composite) (place : ℕ) → ((cs ++ combos (take place items)) ++ combos (between place (place + 1) items)) ++ combos (drop (place + 1) items) ≡ cs ++ combos items
  all_with_rest cs items place =
      ap (λ ds. ds ++ combos (drop (place + 1) items)) (some_more cs items place (place + 1) (omega arith))
      ∙ append_assoc cs (combos (take (place + 1) items)) (combos (drop (place + 1) items))
      ∙ ap (λ ds. cs ++ ds) (sym (map-append (combination_at source outer) (take (place + 1) items) (drop (place + 1) items)) ∙ ap combos (take-append-drop (place + 1) items))

  pub one_seen : (items : List Composite) (place width : ℕ) (composite : code.Composite) → place < length items → width ≡ length b.tables → numbers_in width composite ≡ get_or items place [] → combos (between place (place + 1) items) ≡ seen source outer composite ∷ []
  one_seen items place width composite within wide is =
      ap combos (one_between place items [] within)
      ∙ ap (λ c. c ∷ []) (ap (combination_of source.database b) (sym is ∙ ap (λ w. numbers_in w composite) wide))

  pub are_in : (o : Option OpenGroup) (first end : ℕ) (items : List Composite) → end ≤ length items → AreIn source outer o first end items → AllByRecursion (λ c. is_in source outer o c ≡ true) (combos (between first end items))
  are_in o first end items l h =
      all_mapped (λ c. is_in source outer o c ≡ true) (combination_at source outer) (between first end items)
      (between_all (λ composite. is_in source outer o (combination_at source outer composite) ≡ true) [] first end items l h)

  -- ---- cuts

  abbrev Starts : List Combination → Combination → Type 0
  Starts members first = (column : BlockColumn) (others : List BlockColumn) → b.groups ≡ column ∷ others → (rest : List Combination) × (members ≡ first ∷ rest)

  starts_more : (members more : List Combination) (first : Combination) → Starts members first → Starts (members ++ more) first
  starts_more members more first h column others e = let (rest, is) = h column others e in (rest ++ more, ap (λ ms. ms ++ more) is)

  begins_by : (members : List Combination) (first : Combination) → Starts members first → Begins b.groups members first
  begins_by members first h column others e = ap (λ ms. get_or ms 0 []) (h column others e).1

  run_cut : (cs more : List Combination) (closed : List (List Combination)) (members : List Combination) (first : Combination) → Starts members first → AllByRecursion (λ c. in_one_group b.groups first c ≡ true) more
      → IsCutInto b.groups cs closed (Some members) → IsCutInto b.groups (cs ++ more) closed (Some (members ++ more))
  run_cut cs [] closed members first h all cut =
      subst (λ ds. IsCutInto b.groups ds closed (Some (members ++ []))) (sym (append-nil cs)) (subst (λ ms. IsCutInto b.groups cs closed (Some ms)) (sym (append-nil members)) cut)
  run_cut cs (c ∷ more) closed members first h all cut =
      subst (λ ds. IsCutInto b.groups ds closed (Some (members ++ c ∷ more))) (append_assoc cs (c ∷ []) more)
      (subst (λ ms. IsCutInto b.groups ((cs ++ c ∷ []) ++ more) closed (Some ms)) (append_assoc members (c ∷ []) more)
      (run_cut (cs ++ c ∷ []) more closed (members ++ c ∷ []) first (starts_more members (c ∷ []) first h) all.1 (cut_goes_on b.groups cs closed members first c cut (begins_by members first h) all.0)))

  -- ---- the open group

  run_open : (members more : List Combination) (o o' : OpenGroup) → IsOpenOf source outer members o → TakesRun source outer more o o' → IsOpenOf source outer (members ++ more) o'
  run_open members more o o' is taken = record {
    values = taken.values members is.values;
    first = λ column others e.
        let (rest, are) = is.first column others e in
        (rest ++ more, ap (λ ms. ms ++ more) are ∙ ap (λ f. seen source outer f ∷ (rest ++ more)) (sym taken.first));
  }

  pub run_well : (more : List Combination) (o o' : Option OpenGroup) → AreTyped source outer more → IsWell source outer o → TakeRun source outer more o o' → IsWell source outer o'
  run_well more None None typed well taken = tt
  run_well more None (Some o') typed well taken = absurd taken
  run_well more (Some o) None typed well taken = tt
  run_well more (Some o) (Some o') typed well taken = record {
    functions = taken.functions ∙ well.functions;
    members = well.members ++ more;
    typed = all_joined Typed well.members more well.typed typed;
    are = run_open well.members more o o' well.are taken;
  }

  run_by : (cs more : List Combination) (rows : RowStore) (closed : List (List Combination)) (open' : Option (List Combination)) (o o' : Option OpenGroup) → AllByRecursion (λ c. is_in source outer o c ≡ true) more → TakeRun source outer more o o'
      → IsCutInto b.groups cs closed open' → AreRowsOf source outer closed rows → IsOpen source outer open' o → AreGroupsOf source outer (cs ++ more) (record { rows = rows; current = o' })
  run_by cs [] rows closed None None None all taken cut are is = (closed, None, subst (λ ds. IsCutInto b.groups ds closed None) (sym (append-nil cs)) cut, are, tt)
  run_by cs (c ∷ more) rows closed None None None all taken cut are is = absurd (true≢false (sym all.0))
  run_by cs more rows closed (Some members) None None all taken cut are is = absurd is
  run_by cs more rows closed open' None (Some o') all taken cut are is = absurd taken
  run_by cs more rows closed open' (Some o) None all taken cut are is = absurd taken
  run_by cs more rows closed None (Some o) (Some o') all taken cut are is = absurd is
  run_by cs more rows closed (Some members) (Some o) (Some o') all taken cut are is =
      (closed, Some (members ++ more), run_cut cs more closed members (seen source outer o.first) is.first all cut, are, run_open members more o o' is taken)

  pub run_taken : (cs more : List Combination) (old : Groups) (rows : RowStore) (o' : Option OpenGroup) → AllByRecursion (λ c. is_in source outer old.current c ≡ true) more → rows ≡ old.rows → TakeRun source outer more old.current o'
      → AreGroupsOf source outer cs old → AreGroupsOf source outer (cs ++ more) (record { rows = rows; current = o' })
  run_taken cs more old rows o' all same taken (closed, open', cut, are, is) = run_by cs more rows closed open' old.current o' all taken cut (subst (AreRowsOf source outer closed) (sym same) are) is

  -- functions that have taken rows in
  pub taken_run : (more : List Combination) (o o' : OpenGroup) → o'.first ≡ o.first → functions_of o'.functions ≡ functions_of o.functions
      → ((envs : List Environment) → AreOf envs o.functions → AreOf (envs ++ environments source outer more) o'.functions) → TakesRun source outer more o o'
  taken_run more o o' first functions step = record {
    first = first;
    functions = functions;
    values = λ members are. subst (λ envs. AreOf envs o'.functions) (sym (map-append (at (context_in source outer)) members more)) (step (environments source outer members) are);
  }

-- ---- a column of a batch

module _ (source : BlockSource) (outer : List Combination) (column : BlockColumn) where
  abbrev value_in : ℕ → Value
  value_in row = value_there source.database (block_in source) column.table column.number row

  column_of_all : (items : List Composite) → map value_in (map (λ (composite : Composite). row_number composite column.table) items) ≡ column_values (environments source outer (combinations_at source outer items)) column
  column_of_all [] = refl
  column_of_all (composite ∷ items) = ap₂ (λ v vs. v ∷ vs) (sym (cell_there source.database (block_in source) composite column)) (column_of_all items)

  pub column_read : (first end table : ℕ) (items : List Composite) (rows all : List ℕ) → column.table ≡ table → all ≡ map (λ (composite : Composite). row_number composite table) items → rows ≡ between first end all
      → map value_in rows ≡ column_values (environments source outer (combinations_at source outer (between first end items))) column
  column_read first end table items rows all same are part =
      ap (map value_in) (part ∙ ap (between first end) (are ∙ ap (λ t. map (λ (composite : Composite). row_number composite t) items) (sym same))
      ∙ ap (take (end - first)) (drop-map (λ (composite : Composite). row_number composite column.table) first items)
      ∙ take-map (λ (composite : Composite). row_number composite column.table) (end - first) (drop first items))
      ∙ column_of_all (between first end items)

-- ---- rows in one group

pub none_left : (columns : List bound.BlockColumn) (i : ℕ) (c d : Combination) → length columns ≤ i → in_one_group (map column_of (drop i columns)) c d ≡ true
none_left [] zero c d l = refl
none_left [] (suc i) c d l = refl
none_left (column ∷ columns) zero c d l = absurd (omega (arith, l))
none_left (column ∷ columns) (suc i) c d l = none_left columns i c d (omega (arith, l))

-- of columns that are left the first tells them not apart
pub column_passed : (columns : List bound.BlockColumn) (i : ℕ) (default : bound.BlockColumn) (c d : Combination) → i < length columns → same_value (cell c (column_of (get_or columns i default))) (cell d (column_of (get_or columns i default))) ≡ true
    → in_one_group (map column_of (drop i columns)) c d ≡ in_one_group (map column_of (drop (i + 1) columns)) c d
column_passed columns i default c d l same =
    ap (λ cs. in_one_group (map column_of cs) c d) (drop_more columns i default l) ∙ ap (λ t. t && in_one_group (map column_of (drop (i + 1) columns)) c d) same

row_mapped : (table : ℕ) (items : List Composite) (at' : ℕ) → at' < length items → get_or (map (λ (composite : Composite). row_number composite table) items) at' 0 ≡ row_number (get_or items at' []) table
row_mapped table [] at' l = absurd (omega (arith, l))
row_mapped table (item ∷ items) zero l = refl
row_mapped table (item ∷ items) (suc at') l = row_mapped table items at' (omega (arith, l))

pub same_at : (source : BlockSource) (outer : List Combination) (column : BlockColumn) (c : Combination) (items : List Composite) (rows : List ℕ) (at' : ℕ) (v : Value) → v ≡ cell c column → rows ≡ map (λ (composite : Composite). row_number composite column.table) items → at' < length items
    → is_eq (rank v (value_there source.database (block_in source) column.table column.number (get_or rows at' 0))) ≡ true → same_value (cell c column) (cell (combination_at source outer (get_or items at' [])) column) ≡ true
same_at source outer column c items rows at' v is are l same =
    ap₂ (λ x y. is_eq (rank x y)) (sym is) (cell_there source.database (block_in source) (get_or items at' []) column ∙ ap (value_there source.database (block_in source) column.table column.number) (sym (ap (λ rs. get_or rs at' 0) are ∙ row_mapped column.table items at' l)))
    ∙ same
