-- Keys that repeat, and rows that are loaded behind others.
use Rattle.std.proofs.Common.{◌≡◌, ◌∙◌, refl, sym, ap, ℕ, List, [], ◌∷◌, ◌++◌, Bool, true, false, Result, Ok, length, map, arith}
use Rattle.std.specs.Prelude.{◌&&◌, ◌||◌, not, IsTrue, IsFalse}
use Rattle.std.specs.List.{AllByRecursion}
use Rattle.std.specs.Ordering.{is_eq, ordering_then, ordering_reverse}
use Rattle.std.specs.declared.cmp.Ordering.{Ordering}
use Rattle.std.specs.declared.cmp.Ordering.TheVariants.{Less, Equal, Greater}
use Rattle.std.proofs.lemmas.List.{append-nil, append_assoc, length-map, map-append}
use Rattle.definitions.specs.Value.{Value, Null, Number, Text, rank, HasType, SqlType, is_null}
use Rattle.definitions.specs.Table.{Column, Row, Index, Table, IsRow, may_be_null}
use Rattle.definitions.specs.Key.{Key, key_of, key_rank, value_at, has_null, repeats, comes_again, AreUnique}
use Rattle.definitions.specs.Refusal.{Refusal, FieldError}
use Rattle.definitions.specs.Invariant.{KeepsNullsOut}
use Rattle.definitions.specs.Loading as load
use Rattle.definitions.specs.Loading.{Record, FieldLoads, ColumnLoads, FieldsLoad, RecordReads, AllLoad, repeats_key}
use Rattle.definitions.proofs.Ranking.{rank_total}

-- ---- what is said of two keys is said of them the other way round

then_equal : (o p : Ordering) → is_eq (ordering_then o p) ≡ true → (o ≡ Equal) × (is_eq p ≡ true)
then_equal Less p h = absurd cc
then_equal Equal p h = (refl, h)
then_equal Greater p h = absurd cc

pub and_true : (a b : Bool) → (a && b) ≡ true → (a ≡ true) × (b ≡ true)
and_true true b h = (refl, h)
and_true false b h = absurd cc

not_either : (a b : Bool) → not (a || b) ≡ true → (a ≡ false) × (b ≡ false)
not_either true b h = absurd cc
not_either false true h = absurd cc
not_either false false h = (refl, refl)

ranked_back : (a b : Value) → rank a b ≡ Equal → rank b a ≡ Equal
ranked_back a b h = rank_total.antisymm b a ∙ ap ordering_reverse h

null_alike : (a b : Value) → rank a b ≡ Equal → is_null a ≡ false → is_null b ≡ false
null_alike Null b e n = absurd cc
null_alike (Number u s) Null e n = absurd cc
null_alike (Number u s) (Number w r) e n = refl
null_alike (Number u s) (Text t) e n = refl
null_alike (Text t) Null e n = absurd cc
null_alike (Text t) (Number u s) e n = refl
null_alike (Text t) (Text t') e n = refl

repeated_first : (a b : Value) (as' bs : Key) → repeats (a ∷ as') (b ∷ bs) ≡ true → (is_null a ≡ false) × (rank a b ≡ Equal) × (repeats as' bs ≡ true)
repeated_first a b as' bs h =
    let (n, e) = and_true (not (is_null a || has_null as')) _ h in
    let (first, rest) = not_either (is_null a) (has_null as') n in
    let (same, others) = then_equal (rank a b) (key_rank as' bs) e in
    (first, same, rw rest others)

both_repeat : (a b : Value) (as' bs : Key) → is_null a ≡ false → rank a b ≡ Equal → repeats as' bs ≡ true → repeats (a ∷ as') (b ∷ bs) ≡ true
both_repeat a b as' bs n e h =
    let (rest, others) = and_true (not (has_null as')) _ h in
    rw (n, e) (rw rest others)

pub repeats_back : (a b : Key) → length a ≡ length b → repeats a b ≡ true → repeats b a ≡ true
repeats_back [] [] e h = refl
repeats_back [] (y ∷ b) e h = absurd (omega (arith, e))
repeats_back (x ∷ a) [] e h = absurd (omega (arith, e))
repeats_back (x ∷ a) (y ∷ b) e h =
    let (n, same, others) = repeated_first x y a b h in
    both_repeat y x b a (null_alike x y same n) (ranked_back x y same) (repeats_back a b (omega (arith, e)) others)

true_or_false : (b c : Bool) → (b ≡ true → c ≡ true) → c ≡ false → b ≡ false
true_or_false true c h e = absurd (let k : c ≡ true = h refl in cc)
true_or_false false c h e = refl

pub repeats_neither : (a b : Key) → length a ≡ length b → repeats b a ≡ false → repeats a b ≡ false
repeats_neither a b e h = true_or_false (repeats a b) (repeats b a) (repeats_back a b e) h

-- ---- a key that comes for the first time leaves keys unique

pub either_false : (a b : Bool) → (a || b) ≡ false → (a ≡ false) × (b ≡ false)
either_false true b h = absurd cc
either_false false b h = (refl, h)

apart_push : (key : Key) (keys : List Key) (new : Key) → AllByRecursion (λ other. IsFalse (repeats key other)) keys → repeats key new ≡ false → AllByRecursion (λ other. IsFalse (repeats key other)) (keys ++ new ∷ [])
apart_push key [] new h e = (e, tt)
apart_push key (k ∷ keys) new h e = (h.0, apart_push key keys new h.1 e)

pub unique_push : (columns : List ℕ) (before : List Row) (row : Row) → AreUnique (map (key_of columns) before) → comes_again (map (key_of columns) before) (key_of columns row) ≡ false
    → AreUnique (map (key_of columns) (before ++ row ∷ []))
unique_push columns [] row u h = (tt, tt)
unique_push columns (r ∷ before) row u h =
    let (first, rest) = either_false (repeats (key_of columns row) (key_of columns r)) _ h in
    let long : length (key_of columns r) ≡ length (key_of columns row) = length-map columns (value_at r) ∙ sym (length-map columns (value_at row)) in
    (rw (map-append (key_of columns) before (row ∷ [])) (apart_push (key_of columns r) (map (key_of columns) before) (key_of columns row) u.0 (repeats_neither _ _ long first)), unique_push columns before row u.1 rest)

own_index : (b c : Bool) → (b && c) ≡ false → b ≡ true → c ≡ false
own_index true c h e = h
own_index false c h e = absurd cc

first_key : (i : Index) (indexes : List Index) (before : List Row) (row : Row) → repeats_key (i ∷ indexes) before row ≡ false
    → ((i.unique && comes_again (map (key_of i.columns) before) (key_of i.columns row)) ≡ false) × (repeats_key indexes before row ≡ false)
first_key i indexes before row h = either_false _ _ h

-- the keys of each unique index
abbrev pub AreKeysUnique : List Index → List Row → Type 0
AreKeysUnique indexes rows = AllByRecursion (λ (i : Index). i.unique ≡ true → AreUnique (map (key_of i.columns) rows)) indexes

keys_push : (indexes : List Index) (before : List Row) (row : Row) → AreKeysUnique indexes before → repeats_key indexes before row ≡ false → AreKeysUnique indexes (before ++ row ∷ [])
keys_push [] before row u h = tt
keys_push (i ∷ indexes) before row u h =
    let (own, others) = first_key i indexes before row h in
    (λ e. unique_push i.columns before row (u.0 e) (own_index i.unique _ own e), keys_push indexes before row u.1 others)

pub keys_loaded : (t : Table) (before : List Row) (records : List Record) (rows : List Row) → AreKeysUnique t.indexes before → AllLoad t before records rows → AreKeysUnique t.indexes (before ++ rows)
keys_loaded t before records rows u (load.none b) = rw (append-nil before) u
keys_loaded t before records rows u (load.next b one more row rest (load.unread r s e) a) = absurd cc
keys_loaded t before records rows u (load.next b one more row rest (load.repeated row' s n e) a) = absurd cc
keys_loaded t before records rows u (load.next b one more row rest (load.row row' s n e) a) =
    let same : row ≡ row' = cc in
    let next : AreKeysUnique t.indexes (before ++ row ∷ []) = rw same (keys_push t.indexes before row' u n) in
    let all = keys_loaded t (before ++ row ∷ []) more rest next a in
    rw (← append_assoc before (row ∷ []) rest) all

-- ---- rows that load have values of their columns' types, and no null where none may be

null_typed : (type : SqlType) → HasType type Null
null_typed type = tt

typed_field : (type : SqlType) (field : List ℕ) (o : Result Value FieldError) (v : Value) → FieldLoads type field o → o ≡ Ok v → HasType type v
typed_field type field o v (load.null e) h = let k : Null ≡ v = cc in rw (← k) (null_typed type)
typed_field type field o v (load.stored w x digits n g s) h = let k : x ≡ v = cc in rw (← k) s.0
typed_field type field o v (load.unfit w digits n g s) h = absurd cc
typed_field type field o v (load.unwritten n g) h = absurd cc

kept_column : (c : Column) (field : List ℕ) (v : Value) → ColumnLoads c field (Ok v) → HasType c.type v × IsTrue (may_be_null c.constraint || not (is_null v))
kept_column c field v (load.loaded w l k e) = let same : v ≡ w = cc in rw same (typed_field c.type field (Ok w) w l refl, k)
kept_column c field v (load.null l k e) = absurd cc
kept_column c field v (load.faulty x l e) = absurd cc

-- what holds of a row that loads
abbrev pub Fits : List Column → Row → Type 0
Fits columns row = IsRow columns row × KeepsNullsOut columns row

fitting_fields : (columns : List Column) (fields : Record) (o : Result Row Refusal) (row : Row) → FieldsLoad columns fields o → o ≡ Ok row → Fits columns row
fitting_fields columns fields o row load.none h = let k : [] ≡ row = cc in rw (← k) (tt, tt)
fitting_fields columns fields o row (load.next c cs f fs v more l s) h =
    let k : v ∷ more ≡ row = cc in
    let own = kept_column c f v l in
    let others = fitting_fields cs fs (Ok more) more s refl in
    rw (← k) ((own.0, others.0), (own.1, others.1))
fitting_fields columns fields o row (load.first c cs f fs e l) h = absurd cc
fitting_fields columns fields o row (load.later c cs f fs v r l s) h = absurd cc

pub fitting_record : (columns : List Column) (fields : Record) (row : Row) → RecordReads columns fields (Ok row) → Fits columns row
fitting_record columns fields row (load.count h e) = absurd cc
fitting_record columns fields row (load.each h s) = fitting_fields columns fields (Ok row) row s refl

pub fitting_all : (t : Table) (before : List Row) (records : List Record) (rows : List Row) → AllLoad t before records rows → AllByRecursion (Fits t.columns) rows
fitting_all t before records rows (load.none b) = tt
fitting_all t before records rows (load.next b one more row rest (load.unread r s e) a) = absurd cc
fitting_all t before records rows (load.next b one more row rest (load.repeated row' s n e) a) = absurd cc
fitting_all t before records rows (load.next b one more row rest (load.row row' s n e) a) =
    let same : row ≡ row' = cc in
    (rw same (fitting_record t.columns one row' s), fitting_all t (before ++ row ∷ []) more rest a)

pub all_left : {X : Type 0} (P Q : X → Type 0) (xs : List X) → AllByRecursion (λ x. P x × Q x) xs → AllByRecursion P xs
all_left P Q [] h = tt
all_left P Q (x ∷ xs) h = (h.0.0, all_left P Q xs h.1)

pub all_right : {X : Type 0} (P Q : X → Type 0) (xs : List X) → AllByRecursion (λ x. P x × Q x) xs → AllByRecursion Q xs
all_right P Q [] h = tt
all_right P Q (x ∷ xs) h = (h.0.1, all_right P Q xs h.1)

pub all_append : {X : Type 0} (P : X → Type 0) (xs ys : List X) → AllByRecursion P xs → AllByRecursion P ys → AllByRecursion P (xs ++ ys)
all_append P [] ys h k = k
all_append P (x ∷ xs) ys h k = (h.0, all_append P xs ys h.1 k)
