-- The tables of a block, and their rows.
use Rattle.std.proofs.Common.{◌≡◌, ◌∙◌, refl, sym, ap, ℕ, zero, suc, ◌+◌, ◌<◌, ◌≤◌, List, [], ◌∷◌, ◌++◌, Option, Some, length, map, get_or, drop, is_some, true≢false, arith}
use Rattle.std.specs.Prelude.{slice_get, option_and_then}
use Rattle.std.specs.List.{AllByRecursion}
use Rattle.std.specs.Borrow.{Bor}
use Rattle.std.proofs.lemmas.List.{drop_more}
use Rattle.std.proofs.lemmas.Option.{slice_get-get_or, slice_get_read}
use Rattle.definitions.specs.Table.{Table, Database}
use Rattle.definitions.specs.Queries.BoundBlock.{Block}
use Rattle.definitions.specs.Queries.Combinations.{rows_of}
use Rattle.definitions.specs.Estimates.BlockTables.{table_at}
use Rattle.definitions_execution.specs.OfBlock.{rows_in}
use Rattle.filters.specs.Inside.{tables_of}

pub at_place : {X : Type 0} (xs : List X) (i : ℕ) (x : X) → i < length xs → x ≡ get_or xs i x → drop i xs ≡ x ∷ drop (i + 1) xs
at_place xs i x h e = drop_more xs i x h ∙ ap (λ y. y ∷ drop (i + 1) xs) (sym e)

pub all_at : {X : Type 0} (P : X → Type 0) (xs : List X) (i : ℕ) (x : X) → AllByRecursion P xs → i < length xs → x ≡ get_or xs i x → P x
all_at P [] i x a h e = absurd (omega (arith, h))
all_at P (y ∷ ys) zero x a h e = let same : x ≡ y = e in rw same a.0
all_at P (y ∷ ys) (suc i) x a h e = all_at P ys i x a.1 (omega (arith, h)) e

-- ---- a list of tables made of their numbers

onto : {X Z : Type 0} (f : X → Z) (xs : List X) (x : X) (zs : List Z) → map f (xs ++ x ∷ []) ++ zs ≡ map f xs ++ f x ∷ zs
onto f [] x zs = refl
onto f (y ∷ ys) x zs = ap (λ rest. f y ∷ rest) (onto f ys x zs)

pub next_mapped : {X Y Z : Type 0} (f : X → Z) (g : Y → Z) (before after : List X) (x : X) (ys : List Y) (i : ℕ) (y : Y) → i < length ys → y ≡ get_or ys i y → after ≡ before ++ x ∷ [] → f x ≡ g y
    → map f after ++ map g (drop (i + 1) ys) ≡ map f before ++ map g (drop i ys)
next_mapped f g before after x ys i y h e more same =
    ap (λ xs. map f xs ++ map g (drop (i + 1) ys)) more
    ∙ onto f before x (map g (drop (i + 1) ys))
    ∙ ap (λ z. map f before ++ z ∷ map g (drop (i + 1) ys)) same
    ∙ ap (λ zs. map f before ++ map g zs) (sym (at_place ys i y h e))

nothing_more : {X : Type 0} (xs : List X) → xs ++ [] ≡ xs
nothing_more [] = refl
nothing_more (x ∷ xs) = ap (λ ys. x ∷ ys) (nothing_more xs)

pub all_mapped : {X Y Z : Type 0} (f : X → Z) (g : Y → Z) (xs : List X) (rest ys : List Y) → rest ≡ [] → map f xs ++ map g rest ≡ map g ys → map f xs ≡ map g ys
all_mapped f g xs rest ys none e = sym (nothing_more (map f xs)) ∙ ap (λ zs. map f xs ++ map g zs) (sym none) ∙ e

pub same_length : {X Y Z : Type 0} (f : X → Z) (g : Y → Z) (xs : List X) (ys : List Y) → map f xs ≡ map g ys → length xs ≡ length ys
same_length f g [] [] e = refl
same_length f g [] (y ∷ ys) e = absurd cc
same_length f g (x ∷ xs) [] e = absurd cc
same_length f g (x ∷ xs) (y ∷ ys) e = let rest : map f xs ≡ map g ys = cc in ap suc (same_length f g xs ys rest)

abbrev pub told : Bor Table → Option Table
told t = Some t.now

pub tables_at : (db : Database) (numbers : List ℕ) (tables : List (Bor Table)) (k : ℕ) → map told tables ≡ map (slice_get db) numbers → slice_get (tables_of tables) k ≡ option_and_then (slice_get db) (slice_get numbers k)
tables_at db [] [] k e = refl
tables_at db [] (t ∷ ts) k e = absurd cc
tables_at db (n ∷ ns) [] k e = absurd cc
tables_at db (n ∷ ns) (t ∷ ts) zero e = let first : Some t.now ≡ slice_get db n = cc in first
tables_at db (n ∷ ns) (t ∷ ts) (suc k) e = let rest : map told ts ≡ map (slice_get db) ns = cc in tables_at db ns ts k rest

any_else : {X : Type 0} (xs : List X) (i : ℕ) (d e : X) → i < length xs → get_or xs i d ≡ get_or xs i e
any_else xs i d e h = let p = slice_get-get_or xs i d h in let q = slice_get-get_or xs i e h in let both : Some (get_or xs i d) ≡ Some (get_or xs i e) = sym p ∙ q in cc

module _ (db : Database) (numbers : List ℕ) (i : ℕ) (h : i < length numbers) where
  number_at : get_or numbers i 0 ≡ get_or numbers i (get_or numbers i 0)
  number_at = any_else numbers i 0 (get_or numbers i 0) h

  pub number_within : AllByRecursion (λ n. n < length db) numbers → get_or numbers i 0 < length db
  number_within all = all_at (λ n. n < length db) numbers i (get_or numbers i 0) all h number_at

  pub next_table : (before after : List (Bor Table)) (t : Bor Table) → after ≡ before ++ t ∷ [] → get_or numbers i 0 < length db → t.now ≡ get_or db (get_or numbers i 0) t.now
      → map told after ++ map (slice_get db) (drop (i + 1) numbers) ≡ map told before ++ map (slice_get db) (drop i numbers)
  next_table before after t more within is =
      next_mapped told (slice_get db) before after t numbers i (get_or numbers i 0) h number_at more (sym (slice_get_read db (length db) (get_or numbers i 0) t.now refl within is))

-- ---- the rows of a table

rows_there : (db : Database) (n : ℕ) (t : Table) → slice_get db n ≡ Some t → rows_of db n ≡ t.rows
rows_there [] n t e = absurd (true≢false (sym (ap is_some e)))
rows_there (u ∷ us) zero t e = let same : u ≡ t = cc in ap (λ (x : Table). x.rows) same
rows_there (u ∷ us) (suc n) t e = rows_there us n t e

rows_listed : (db : Database) (numbers : List ℕ) (k : ℕ) (t : Table) → option_and_then (slice_get db) (slice_get numbers k) ≡ Some t → get_or (map (rows_of db) numbers) k [] ≡ t.rows
rows_listed db [] k t e = absurd (true≢false (sym (ap is_some e)))
rows_listed db (n ∷ ns) zero t e = rows_there db n t e
rows_listed db (n ∷ ns) (suc k) t e = rows_listed db ns k t e

none_listed : (db : Database) (numbers : List ℕ) (k : ℕ) → length numbers ≤ k → get_or (map (rows_of db) numbers) k [] ≡ []
none_listed db [] k h = refl
none_listed db (n ∷ ns) zero h = absurd (omega (arith, h))
none_listed db (n ∷ ns) (suc k) h = none_listed db ns k (omega (arith, h))

module _ (db : Database) (block : Block) (table : ℕ) where
  pub rows_are : (t : Table) → table_at db block table ≡ Some t → rows_in db block table ≡ t.rows
  rows_are t e = rows_listed db block.tables table t e

  pub no_rows : length block.tables ≤ table → rows_in db block table ≡ []
  no_rows h = none_listed db block.tables table h
