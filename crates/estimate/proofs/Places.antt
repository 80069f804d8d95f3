-- The element at a place of a list, and what is made of a list one element after another.
use Rattle.std.proofs.Common.{◌≡◌, ◌∙◌, refl, sym, ap, ℕ, zero, suc, ◌+◌, ◌<◌, List, [], ◌∷◌, ◌++◌, Option, Some, length, map, get_or, drop, arith}
use Rattle.std.specs.Prelude.{fold, slice_get, option_and_then, option_map}
use Rattle.std.specs.List.{AllByRecursion}
use Rattle.std.specs.Borrow.{Bor}
use Rattle.std.proofs.lemmas.List.{drop_more}
use Rattle.std.proofs.lemmas.Option.{slice_get-get_or, slice_get_read}
use Rattle.definitions.specs.Table.{Table, Column, Database}
use Rattle.definitions.specs.Value.{SqlType}
use Rattle.definitions.specs.Statistics.{bytes_of}
use Rattle.estimate.specs.Tables.{tables_of}

pub at_place : {X : Type 0} (xs : List X) (i : ℕ) (x : X) → i < length xs → x ≡ get_or xs i x → drop i xs ≡ x ∷ drop (i + 1) xs
at_place xs i x h e = drop_more xs i x h ∙ ap (λ y. y ∷ drop (i + 1) xs) (sym e)

pub all_at : {X : Type 0} (P : X → Type 0) (xs : List X) (i : ℕ) (x : X) → AllByRecursion P xs → i < length xs → x ≡ get_or xs i x → P x
all_at P [] i x a h e = absurd (omega (arith, h))
all_at P (y ∷ ys) zero x a h e = let same : x ≡ y = e in rw same a.0
all_at P (y ∷ ys) (suc i) x a h e = all_at P ys i x a.1 (omega (arith, h)) e

-- ---- one list made of another

onto : {X Z : Type 0} (f : X → Z) (xs : List X) (x : X) (zs : List Z) → map f (xs ++ x ∷ []) ++ zs ≡ map f xs ++ f x ∷ zs
onto f [] x zs = refl
onto f (y ∷ ys) x zs = ap (λ rest. f y ∷ rest) (onto f ys x zs)

pub next_mapped : {X Y Z : Type 0} (f : X → Z) (g : Y → Z) (before after : List X) (x : X) (ys : List Y) (i : ℕ) (y : Y) → i < length ys → y ≡ get_or ys i y → after ≡ before ++ x ∷ [] → f x ≡ g y
    → map f after ++ map g (drop (i + 1) ys) ≡ map f before ++ map g (drop i ys)
next_mapped f g before after x ys i y h e more same =
    ap (λ xs. map f xs ++ map g (drop (i + 1) ys)) more
    ∙ onto f before x (map g (drop (i + 1) ys))
    ∙ ap (λ z. map f before ++ z ∷ map g (drop (i + 1) ys)) same
    ∙ ap (λ zs. map f before ++ map g zs) (sym (at_place ys i y h e))

nothing_more : {X : Type 0} (xs : List X) → xs ++ [] ≡ xs
nothing_more [] = refl
nothing_more (x ∷ xs) = ap (λ ys. x ∷ ys) (nothing_more xs)

pub all_mapped : {X Y Z : Type 0} (f : X → Z) (g : Y → Z) (xs : List X) (rest ys : List Y) → rest ≡ [] → map f xs ++ map g rest ≡ map g ys → map f xs ≡ map g ys
all_mapped f g xs rest ys none e = sym (nothing_more (map f xs)) ∙ ap (λ zs. map f xs ++ map g zs) (sym none) ∙ e

pub twice_mapped : {X Y Z : Type 0} (f : Y → Z) (g : X → Y) (xs : List X) → map (λ x. f (g x)) xs ≡ map f (map g xs)
twice_mapped f g [] = refl
twice_mapped f g (x ∷ xs) = ap (λ ys. f (g x) ∷ ys) (twice_mapped f g xs)

pub same_length : {X Y Z : Type 0} (f : X → Z) (g : Y → Z) (xs : List X) (ys : List Y) → map f xs ≡ map g ys → length xs ≡ length ys
same_length f g [] [] e = refl
same_length f g [] (y ∷ ys) e = absurd cc
same_length f g (x ∷ xs) [] e = absurd cc
same_length f g (x ∷ xs) (y ∷ ys) e = let rest : map f xs ≡ map g ys = cc in ap suc (same_length f g xs ys rest)

-- ---- the tables of a block

abbrev pub told : Bor Table → Option Table
told t = Some t.now

pub tables_at : (db : Database) (numbers : List ℕ) (tables : List (Bor Table)) (k : ℕ) → map told tables ≡ map (slice_get db) numbers → slice_get (tables_of tables) k ≡ option_and_then (slice_get db) (slice_get numbers k)
tables_at db [] [] k e = refl
tables_at db [] (t ∷ ts) k e = absurd cc
tables_at db (n ∷ ns) [] k e = absurd cc
tables_at db (n ∷ ns) (t ∷ ts) zero e = let first : Some t.now ≡ slice_get db n = cc in first
tables_at db (n ∷ ns) (t ∷ ts) (suc k) e = let rest : map told ts ≡ map (slice_get db) ns = cc in tables_at db ns ts k rest

-- ---- the columns of a table

abbrev pub bytes_from : ℕ → List Column → ℕ
bytes_from bytes columns = fold (λ a (c : Column). a + bytes_of c.type) bytes columns

type_at : (columns : List Column) (i : ℕ) (type : SqlType) → option_map (λ (c : Column). c.type) (slice_get columns i) ≡ Some type → (c : Column) × (drop i columns ≡ c ∷ drop (i + 1) columns) × (c.type ≡ type)
type_at [] zero type e = absurd cc
type_at [] (suc i) type e = absurd cc
type_at (c ∷ cs) zero type e = (c, refl, cc)
type_at (c ∷ cs) (suc i) type e =
    let rest = type_at cs i type e in
    let next : suc (i + 1) ≡ suc i + 1 = omega arith in
    (rest.0, rest.1 ∙ ap (λ n. rest.0 ∷ drop n (c ∷ cs)) next, rest.2)

pub next_bytes : (columns : List Column) (i bytes more : ℕ) (type : SqlType) → option_map (λ (c : Column). c.type) (slice_get columns i) ≡ Some type → more ≡ bytes_of type
    → bytes_from (bytes + more) (drop (i + 1) columns) ≡ bytes_from bytes (drop i columns)
next_bytes columns i bytes more type e m =
    let (c, here, same) = type_at columns i type e in
    ap (λ b. bytes_from (bytes + b) (drop (i + 1) columns)) (m ∙ ap bytes_of (sym same)) ∙ ap (bytes_from bytes) (sym here)

-- ---- numbers of tables

any_else : {X : Type 0} (xs : List X) (i : ℕ) (d e : X) → i < length xs → get_or xs i d ≡ get_or xs i e
any_else xs i d e h = let p = slice_get-get_or xs i d h in let q = slice_get-get_or xs i e h in let both : Some (get_or xs i d) ≡ Some (get_or xs i e) = sym p ∙ q in cc

module _ (db : Database) (numbers : List ℕ) (i : ℕ) (h : i < length numbers) where
  number_at : get_or numbers i 0 ≡ get_or numbers i (get_or numbers i 0)
  number_at = any_else numbers i 0 (get_or numbers i 0) h

  pub number_within : AllByRecursion (λ n. n < length db) numbers → get_or numbers i 0 < length db
  number_within all = all_at (λ n. n < length db) numbers i (get_or numbers i 0) all h number_at

  pub next_told : (before after : List (Bor Table)) (t : Bor Table) → after ≡ before ++ t ∷ [] → get_or numbers i 0 < length db → t.now ≡ get_or db (get_or numbers i 0) t.now
      → map told after ++ map (slice_get db) (drop (i + 1) numbers) ≡ map told before ++ map (slice_get db) (drop i numbers)
  next_told before after t more within is =
      next_mapped told (slice_get db) before after t numbers i (get_or numbers i 0) h number_at more (sym (slice_get_read db (length db) (get_or numbers i 0) t.now refl within is))
