-- The records of a file as rows of a table with indexes.
use Rattle.std.proofs.Common.{◌≡◌, ◌∙◌, refl, sym, ap, ℕ, zero, suc, ◌<◌, List, [], ◌∷◌, ◌++◌, Bool, true, false, length, map, get_or, arith}
use Rattle.std.specs.Prelude.{◌&&◌, ◌||◌, IsFalse}
use Rattle.std.specs.List.{AllByRecursion}
use Rattle.std.proofs.lemmas.List.{length-map, append_assoc}
use Rattle.definitions.specs.Table.{Row, Table}
use Rattle.definitions.specs.Key.{Key, key_of, value_at, repeats, comes_again, AreUnique}
use Rattle.definitions.specs.Loading as load
use Rattle.definitions.specs.Loading.{Record, AllRead, AllLoad, repeats_key}
use Rattle.definitions.proofs.Repeats.{repeats_neither}
use Rattle.indexes.specs.Indexes.{StoredIndex}
use Rattle.indexes.specs.Extension.{AreOnce, IsFirstRepeat, RefusesExtension}
use Rattle.indexes.specs.declared.extension.RepeatedRow.{RepeatedRow}
use Rattle.indexes.specs.declared.extension.ExtendFault.{ExtendFault}
use Rattle.indexes.specs.declared.extension.ExtendFault.TheVariants as e

-- ---- unique keys

-- a part of unique keys is unique
none_after : (key : Key) (xs ys : List Key) → AllByRecursion (λ other. IsFalse (repeats key other)) (xs ++ ys) → AllByRecursion (λ other. IsFalse (repeats key other)) xs
none_after key [] ys h = tt
none_after key (x ∷ xs) ys h = (h.0, none_after key xs ys h.1)

pub unique_front : (xs ys : List Key) → AreUnique (xs ++ ys) → AreUnique xs
unique_front [] ys h = tt
unique_front (x ∷ xs) ys h = (none_after x xs ys h.0, unique_front xs ys h.1)

-- an earlier key doesn't repeat as a later one
later_apart : (key : Key) (keys : List Key) (j : ℕ) (d : Key) → AllByRecursion (λ other. IsFalse (repeats key other)) keys → j < length keys → repeats key (get_or keys j d) ≡ false
later_apart key [] j d h l = absurd (omega (arith, l))
later_apart key (k ∷ keys) zero d h l = h.0
later_apart key (k ∷ keys) (suc j) d h l = later_apart key keys j d h.1 (omega (arith, l))

pub pair_apart : (keys : List Key) (i j : ℕ) (d : Key) → AreUnique keys → i < j → j < length keys → repeats (get_or keys i d) (get_or keys j d) ≡ false
pair_apart [] i j d u h l = absurd (omega (arith, l))
pair_apart (k ∷ keys) i zero d u h l = absurd (omega (arith, h))
pair_apart (k ∷ keys) zero (suc j) d u h l = later_apart k keys j d u.0 (omega (arith, l))
pair_apart (k ∷ keys) (suc i) (suc j) d u h l = pair_apart keys i j d u.1 (omega (arith, h)) (omega (arith, l))

-- a key behind unique ones is none of them
both_false : (a b : Bool) → a ≡ false → b ≡ false → (a || b) ≡ false
both_false a b h l = rw (h, l) refl

keys_long : (columns : List ℕ) (r s : Row) → length (key_of columns r) ≡ length (key_of columns s)
keys_long columns r s = length-map columns (value_at r) ∙ sym (length-map columns (value_at s))

apart_in : (columns : List ℕ) (r : Row) (before after : List Row) (row : Row) → AllByRecursion (λ other. IsFalse (repeats (key_of columns r) other)) (map (key_of columns) (before ++ row ∷ after)) → repeats (key_of columns r) (key_of columns row) ≡ false
apart_in columns r [] after row h = h.0
apart_in columns r (x ∷ before) after row h = apart_in columns r before after row h.1

new_key : (columns : List ℕ) (before after : List Row) (row : Row) → AreUnique (map (key_of columns) (before ++ row ∷ after)) → comes_again (map (key_of columns) before) (key_of columns row) ≡ false
new_key columns [] after row u = refl
new_key columns (r ∷ before) after row u =
    let own : repeats (key_of columns r) (key_of columns row) ≡ false = apart_in columns r before after row u.0 in
    both_false (repeats (key_of columns row) (key_of columns r)) _ (repeats_neither (key_of columns row) (key_of columns r) (keys_long columns row r) own) (new_key columns before after row u.1)

either_way : (b c : Bool) → (b ≡ true → c ≡ false) → (b && c) ≡ false
either_way true c h = h refl
either_way false c h = refl

no_index : (indexes : List StoredIndex) (before after : List Row) (row : Row) → AreOnce (before ++ row ∷ after) indexes → repeats_key (map (λ (i : StoredIndex). i.index) indexes) before row ≡ false
no_index [] before after row h = refl
no_index (i ∷ indexes) before after row h =
    both_false (i.index.unique && comes_again (map (key_of i.index.columns) before) (key_of i.index.columns row)) _ (either_way i.index.unique _ (λ e. new_key i.index.columns before after row (h.0 e))) (no_index indexes before after row h.1)

-- ---- records that read as rows load as them, where no key repeats

pub all_load : (t : Table) (indexes : List StoredIndex) (before : List Row) (records : List Record) (rows : List Row) → t.indexes ≡ map (λ (i : StoredIndex). i.index) indexes → AllRead t.columns records rows → AreOnce (before ++ rows) indexes
    → AllLoad t before records rows
all_load t indexes before records rows e load.none o = load.none before
all_load t indexes before records rows e (load.next one more row rest r a) o =
    let new : repeats_key t.indexes before row ≡ false = ap (λ is. repeats_key is before row) e ∙ no_index indexes before rest row o in
    let further : AreOnce ((before ++ row ∷ []) ++ rest) indexes = rw (append_assoc before (row ∷ []) rest) o in
    load.next before one more row rest (load.row row r new refl) (all_load t indexes (before ++ row ∷ []) more rest e a further)

-- a fault that tells of a repeated row
pub repeat_of : (indexes : List StoredIndex) (rows : List Row) (fault : ExtendFault) (r : RepeatedRow) → fault ≡ e.Repeated r → RefusesExtension indexes rows fault → IsFirstRepeat indexes rows r
repeat_of indexes rows fault r h f = let told = rw h at f in told
