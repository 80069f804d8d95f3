-- The indexes of a table that gets further rows, one after another.
use Rattle.std.proofs.Common.{◌≡◌, ◌∙◌, refl, sym, ap, subst, ℕ, zero, suc, ◌+◌, ◌<◌, ◌≤◌, List, [], ◌∷◌, ◌++◌, Option, Some, None, Bool, true, false, length, map, take, get_or, arith}
use Rattle.std.specs.Prelude.{nat_le, slice_get, if◌then◌else◌}
use Rattle.std.specs.List.{AllByRecursion}
use Rattle.std.proofs.lemmas.Bool.{leb-true, leb-false}
use Rattle.std.proofs.lemmas.List.{length-map, take-map, take_all, take_more}
use Rattle.std.proofs.lemmas.List.Elements.{AllZip-push}
use Rattle.definitions.specs.Table.{Column, Row}
use Rattle.definitions.specs.Key.{Key, key_of, AreUnique}
use Rattle.indexes.specs.Repeats.{IsFirstRepeated}
use Rattle.indexes.specs.declared.repeated.RepeatedKey.{RepeatedKey}
use Rattle.indexes.specs.declared.unique.UniqueFault.TheVariants as u
use Rattle.indexes.specs.Indexes.{StoredIndex, IsIndexOn, RefusesIndexOn}
use Rattle.indexes.specs.Extension.{AreExtended, AreOnce, IsFirstRepeat, earlier_repeat}
use Rattle.indexes.specs.declared.extension.RepeatedRow.{RepeatedRow}

-- of the indexes so far each is extended, or a row repeats a key
abbrev pub SoFar : List Column → List Row → List StoredIndex → List StoredIndex → Option RepeatedRow → Type 0
SoFar columns rows indexes made None = AreExtended columns rows indexes made × AreOnce rows indexes
SoFar columns rows indexes made (Some r) = IsFirstRepeat indexes rows r

-- ---- keys of fewer rows

all_of_fewer : (P : Key → Type 0) (f : Row → Key) (k m : ℕ) (rows : List Row) → k ≤ m → AllByRecursion P (map f (take m rows)) → AllByRecursion P (map f (take k rows))
all_of_fewer P f zero m rows l h = tt
all_of_fewer P f (suc k) zero rows l h = absurd (omega (arith, l))
all_of_fewer P f (suc k) (suc m) [] l h = tt
all_of_fewer P f (suc k) (suc m) (row ∷ rows) l h = (h.0, all_of_fewer P f k m rows (omega (arith, l)) h.1)

unique_of_fewer : (f : Row → Key) (k m : ℕ) (rows : List Row) → k ≤ m → AreUnique (map f (take m rows)) → AreUnique (map f (take k rows))
unique_of_fewer f zero m rows l h = tt
unique_of_fewer f (suc k) zero rows l h = absurd (omega (arith, l))
unique_of_fewer f (suc k) (suc m) [] l h = tt
unique_of_fewer f (suc k) (suc m) (row ∷ rows) l h = (all_of_fewer _ f k m rows (omega (arith, l)) h.0, unique_of_fewer f k m rows (omega (arith, l)) h.1)

once_of_fewer : (k m : ℕ) (rows : List Row) (indexes : List StoredIndex) → k ≤ m → AreOnce (take m rows) indexes → AreOnce (take k rows) indexes
once_of_fewer k m rows [] l h = tt
once_of_fewer k m rows (i ∷ indexes) l h = (λ e. unique_of_fewer (key_of i.index.columns) k m rows l (h.0 e), once_of_fewer k m rows indexes l h.1)

once_of_first : (k : ℕ) (rows : List Row) (indexes : List StoredIndex) → k ≤ length rows → AreOnce rows indexes → AreOnce (take k rows) indexes
once_of_first k rows indexes l h = once_of_fewer k (length rows) rows indexes l (subst (λ rs. AreOnce rs indexes) (sym (take_all (length rows) rows (omega arith))) h)

unique_of_first : (f : Row → Key) (k : ℕ) (rows : List Row) → k ≤ length rows → AreUnique (map f rows) → AreUnique (map f (take k rows))
unique_of_first f k rows l h = unique_of_fewer f k (length rows) rows l (subst (λ rs. AreUnique (map f rs)) (sym (take_all (length rows) rows (omega arith))) h)

-- ---- one index more

once_push : (rows : List Row) (indexes : List StoredIndex) (i : StoredIndex) → AreOnce rows indexes → (i.index.unique ≡ true → AreUnique (map (key_of i.index.columns) rows)) → AreOnce rows (indexes ++ i ∷ [])
once_push rows [] i h own = (own, tt)
once_push rows (j ∷ indexes) i h own = (h.0, once_push rows indexes i h.1 own)

named_before : (indexes : List StoredIndex) (i j : StoredIndex) (n : ℕ) → slice_get indexes n ≡ Some j → slice_get (indexes ++ i ∷ []) n ≡ Some j
named_before [] i j n h = absurd cc
named_before (k ∷ indexes) i j zero h = h
named_before (k ∷ indexes) i j (suc n) h = named_before indexes i j n h

named_last : (indexes : List StoredIndex) (i : StoredIndex) → slice_get (indexes ++ i ∷ []) (length indexes) ≡ Some i
named_last [] i = refl
named_last (k ∷ indexes) i = named_last indexes i

still_first : (rows : List Row) (indexes : List StoredIndex) (i : StoredIndex) (r : RepeatedRow) → IsFirstRepeat indexes rows r → (i.index.unique ≡ true → AreUnique (map (key_of i.index.columns) (take r.row rows))) → IsFirstRepeat (indexes ++ i ∷ []) rows r
still_first rows indexes i r h own = record {
  within = h.within;
  earlier = h.earlier;
  index = h.index;
  named = named_before indexes i h.index r.index h.named;
  again = h.again;
  before = once_push (take r.row rows) indexes i h.before own;
}

pub one_more_made : (columns : List Column) (rows : List Row) (indexes made : List StoredIndex) (first : Option RepeatedRow) (i new : StoredIndex) → IsIndexOn columns rows i.index.columns i.index.unique new
    → SoFar columns rows indexes made first → SoFar columns rows (indexes ++ i ∷ []) (made ++ new ∷ []) first
one_more_made columns rows indexes made None i new is h = (AllZip-push _ indexes made i new h.0 is, once_push rows indexes i h.1 is.once)
one_more_made columns rows indexes made (Some r) i new is h = still_first rows indexes i r h (λ e. unique_of_first (key_of i.index.columns) r.row rows (omega (arith, h.within)) (is.once e))

-- a repeated key among those of rows is that of the row
key_there : (f : Row → Key) (rows : List Row) (n : ℕ) → n < length rows → get_or (map f rows) n [] ≡ f (get_or rows n [])
key_there f [] n h = absurd (omega (arith, h))
key_there f (row ∷ rows) zero h = refl
key_there f (row ∷ rows) (suc n) h = key_there f rows n (omega (arith, h))

new_repeat : (rows : List Row) (indexes : List StoredIndex) (i : StoredIndex) (place : ℕ) (key : RepeatedKey) → place ≡ length indexes → i.index.unique ≡ true → IsFirstRepeated (map (key_of i.index.columns) rows) key
    → AreOnce (take key.row rows) indexes → IsFirstRepeat (indexes ++ i ∷ []) rows (record { index = place; row = key.row; earlier = key.earlier })
new_repeat rows indexes i place key e unique r h =
    let f = key_of i.index.columns in
    let within : key.row < length rows = omega (arith, r.within, length-map rows f) in
    let same : take key.row (map f rows) ≡ map f (take key.row rows) = take-map f key.row rows in
    record {
      within = within;
      earlier = r.earlier;
      index = i;
      named = ap (slice_get (indexes ++ i ∷ [])) e ∙ named_last indexes i;
      again = record { unique = unique; again = rw (sym (key_there f rows key.row within), sym (key_there f rows key.earlier (omega (arith, within, r.earlier)))) r.again };
      before = once_push (take key.row rows) indexes i h (λ u. subst AreUnique same r.first);
    }

earlier_by : (b : Bool) (rows : List Row) (indexes : List StoredIndex) (i : StoredIndex) (place : ℕ) (key : RepeatedKey) (r : RepeatedRow) → nat_le r.row key.row ≡ b → place ≡ length indexes → i.index.unique ≡ true → IsFirstRepeated (map (key_of i.index.columns) rows) key
    → IsFirstRepeat indexes rows r → IsFirstRepeat (indexes ++ i ∷ []) rows (if b then r else record { index = place; row = key.row; earlier = key.earlier })
earlier_by true rows indexes i place key r t e unique again h =
    let f = key_of i.index.columns in
    let at_most : r.row ≤ key.row = leb-true r.row key.row t in
    still_first rows indexes i r h (λ u. unique_of_fewer f r.row key.row rows at_most (subst AreUnique (take-map f key.row rows) again.first))
earlier_by false rows indexes i place key r t e unique again h =
    let above : key.row < r.row = leb-false r.row key.row t in
    new_repeat rows indexes i place key e unique again (once_of_fewer key.row r.row rows indexes (omega (arith, above)) h.before)

pub one_more_repeated : (columns : List Column) (rows : List Row) (indexes made : List StoredIndex) (first : Option RepeatedRow) (i : StoredIndex) (place : ℕ) (key : RepeatedKey) → place ≡ length indexes
    → RefusesIndexOn rows i.index.columns i.index.unique (u.Repeated key) → SoFar columns rows indexes made first → SoFar columns rows (indexes ++ i ∷ []) made (Some (earlier_repeat first place key))
one_more_repeated columns rows indexes made None i place key e (unique, again) h =
    new_repeat rows indexes i place key e unique again (once_of_first key.row rows indexes (omega (arith, again.within, length-map rows (key_of i.index.columns))) h.1)
one_more_repeated columns rows indexes made (Some r) i place key e (unique, again) h = earlier_by (nat_le r.row key.row) rows indexes i place key r refl e unique again h

-- ---- all indexes

pub alike_so_far : (columns : List Column) (rows : List Row) (indexes indexes' made made' : List StoredIndex) (first first' : Option RepeatedRow) → indexes' ≡ indexes → made' ≡ made → first' ≡ first
    → SoFar columns rows indexes made first → SoFar columns rows indexes' made' first'
alike_so_far columns rows indexes indexes' made made' first first' e f g h = rw (e, f, g) h

pub next_index : (indexes : List StoredIndex) (place : ℕ) (i : StoredIndex) → place < length indexes → i ≡ get_or indexes place i → take (place + 1) indexes ≡ take place indexes ++ i ∷ []
next_index indexes place i l is = take_more indexes place i l ∙ ap (λ j. take place indexes ++ j ∷ []) (sym is)

pub place_is : (indexes : List StoredIndex) (place : ℕ) → place < length indexes → place ≡ length (take place indexes)
place_is [] place l = absurd (omega (arith, l))
place_is (i ∷ indexes) zero l = refl
place_is (i ∷ indexes) (suc place) l = ap suc (place_is indexes place (omega (arith, l)))
