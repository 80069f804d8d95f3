-- A file has one list of records, and its records load as one thing.
use Rattle.std.proofs.Common.{◌≡◌, ◌∙◌, ◌⊎◌, inl, inr, refl, sym, ap, ap₂, ℕ, ◌+◌, ◌<◌, ◌≤◌, List, [], ◌∷◌, ◌++◌, Option, Some, None, Result, Ok, Err, Bool, true, false, length, arith}
use Rattle.std.specs.Prelude.{IsTrue, IsFalse, not, ◌||◌}
use Rattle.std.proofs.lemmas.List.{append-nil, append_assoc, length-append}
use Rattle.csv.specs.Reading.{AreRecords, Reached}
use Rattle.csv.specs.Machine.{Read, next_record}
use Rattle.csv.specs.declared.parser.Config.{Config}
use Rattle.csv.specs.declared.parser.State.{State}
use Rattle.definitions.specs.Limits.{most_rows}
use Rattle.definitions.specs.Value.{Value, Null}
use Rattle.definitions.specs.Refusal.{Refusal, Field}
use Rattle.definitions.specs.Table.{Column, Row, Table, may_be_null}
use Rattle.definitions.specs.Loading as f
use Rattle.definitions.specs.Loading.{Record, AreFileRecords, ColumnLoads, FieldsLoad, RecordReads, RecordLoads, AllLoad, FirstFaulty, FillsUp, repeats_key}
use Rattle.definitions.proofs.Loading.{loads_once}

-- ---- records

none_and_some : {X : Type 0} (o : Option X) (x : X) → o ≡ None → o ≡ Some x → ⊥
none_and_some o x e f = let g : None ≡ Some x = sym e ∙ f in absurd cc

same_some : {X : Type 0} (o : Option X) (x y : X) → o ≡ Some x → o ≡ Some y → x ≡ y
same_some o x y e f = let g : Some x ≡ Some y = sym e ∙ f in cc

records_once : (cfg : Config) (s : State) (xs : List ℕ) (a b : List Record) → AreRecords cfg s xs a → AreRecords cfg s xs b → a ≡ b
unfolding Reached
records_once cfg s xs [] [] g h = refl
records_once cfg s xs [] (r ∷ rs) (s2, ys, (e, f), none) (s3, zs, (p, is, first, more), none') =
    absurd (none_and_some (next_record cfg s [] [] xs) p (ap₂ (λ s xs. next_record cfg s [] [] xs) e f ∙ none) is)
records_once cfg s xs (r ∷ rs) [] (s3, zs, (p, is, first, more), none') (s2, ys, (e, f), none) =
    absurd (none_and_some (next_record cfg s [] [] xs) p (ap₂ (λ s xs. next_record cfg s [] [] xs) e f ∙ none) is)
records_once cfg s xs (r ∷ rs) (r' ∷ rs') (s2, ys, (p, is, first, more), none) (s3, zs, (p', is', first', more'), none') =
    let same : p ≡ p' = same_some (next_record cfg s [] [] xs) p p' is is' in
    let there : Reached cfg p'.1 p'.2 rs s2 ys = rw same at more in
    ap₂ ◌∷◌ (first ∙ ap (λ (q : Read). q.0) same ∙ sym first') (records_once cfg p'.1 p'.2 rs rs' (s2, ys, there, none) (s3, zs, more', none'))

pub file_reads_once : (bytes : List ℕ) (a b : List Record) → AreFileRecords bytes a → AreFileRecords bytes b → a ≡ b
file_reads_once bytes a b g h = records_once _ _ _ a b g h

-- ---- what a record loads as

abbrev value_in : {X : Type 0} (E : Type 0) → X → Result X E
value_in E x = Ok x

abbrev error_in : {E : Type 0} (X : Type 0) → E → Result X E
error_in X e = Err e

same_ok : {X E : Type 0} (x y : X) → value_in E x ≡ value_in E y → x ≡ y
same_ok x y e = cc

ok_is_no_error : {X E : Type 0} (x : X) (e : E) → value_in E x ≡ error_in X e → ⊥
ok_is_no_error x e h = absurd cc

error_is_not_ok : {X E : Type 0} (e : E) (x : X) → error_in X e ≡ value_in E x → ⊥
error_is_not_ok e x h = absurd cc

same_error : {X E : Type 0} (x y : E) → error_in X x ≡ error_in X y → x ≡ y
same_error x y e = cc

no_null : (b : Bool) → IsTrue (b || not true) → b ≡ false → ⊥
no_null true h e = absurd cc
no_null false h e = absurd cc

column_once : (c : Column) (field : List ℕ) (a b : Result Value Refusal) → ColumnLoads c field a → ColumnLoads c field b → a ≡ b
column_once c field a b (f.loaded v l may e) (f.loaded v' l' may' e') = e ∙ ap Ok (same_ok v v' (loads_once c.type field (Ok v) (Ok v') l l')) ∙ sym e'
column_once c field a b (f.loaded v l may e) (f.null l' never e') =
    let is : v ≡ Null = same_ok v Null (loads_once c.type field (Ok v) (Ok Null) l l') in
    absurd (no_null (may_be_null c.constraint) (rw is at may) never)
column_once c field a b (f.loaded v l may e) (f.faulty r l' e') = absurd (ok_is_no_error v r (loads_once c.type field (Ok v) (Err r) l l'))
column_once c field a b (f.null l never e) (f.loaded v l' may e') =
    let is : v ≡ Null = same_ok v Null (loads_once c.type field (Ok v) (Ok Null) l' l) in
    absurd (no_null (may_be_null c.constraint) (rw is at may) never)
column_once c field a b (f.null l never e) (f.null l' never' e') = e ∙ sym e'
column_once c field a b (f.null l never e) (f.faulty r l' e') = absurd (ok_is_no_error Null r (loads_once c.type field (Ok Null) (Err r) l l'))
column_once c field a b (f.faulty r l e) (f.loaded v l' may e') = absurd (error_is_not_ok r v (loads_once c.type field (Err r) (Ok v) l l'))
column_once c field a b (f.faulty r l e) (f.null l' never e') = absurd (error_is_not_ok r Null (loads_once c.type field (Err r) (Ok Null) l l'))
column_once c field a b (f.faulty r l e) (f.faulty r' l' e') = e ∙ ap (λ x. Err (Field x)) (same_error r r' (loads_once c.type field (Err r) (Err r') l l')) ∙ sym e'

fields_once : (cs : List Column) (fields : Record) (a b : Result Row Refusal) → FieldsLoad cs fields a → FieldsLoad cs fields b → a ≡ b
fields_once cs fields a b f.none f.none = refl
fields_once cs fields a b (f.next c cs' x xs v row l more) (f.next c' cs'' x' xs' v' row' l' more') =
    ap₂ (λ v row. Ok (v ∷ row)) (same_ok v v' (column_once c x (Ok v) (Ok v') l l')) (same_ok row row' (fields_once cs' xs (Ok row) (Ok row') more more'))
fields_once cs fields a b (f.next c cs' x xs v row l more) (f.first c' cs'' x' xs' r l') = absurd (ok_is_no_error v r (column_once c x (Ok v) (Err r) l l'))
fields_once cs fields a b (f.next c cs' x xs v row l more) (f.later c' cs'' x' xs' v' r l' more') = absurd (ok_is_no_error row r (fields_once cs' xs (Ok row) (Err r) more more'))
fields_once cs fields a b (f.first c cs' x xs r l) (f.next c' cs'' x' xs' v row l' more') = absurd (error_is_not_ok r v (column_once c x (Err r) (Ok v) l l'))
fields_once cs fields a b (f.first c cs' x xs r l) (f.first c' cs'' x' xs' r' l') = ap Err (same_error r r' (column_once c x (Err r) (Err r') l l'))
fields_once cs fields a b (f.first c cs' x xs r l) (f.later c' cs'' x' xs' v r' l' more') = absurd (error_is_not_ok r v (column_once c x (Err r) (Ok v) l l'))
fields_once cs fields a b (f.later c cs' x xs v r l more) (f.next c' cs'' x' xs' v' row l' more') = absurd (error_is_not_ok r row (fields_once cs' xs (Err r) (Ok row) more more'))
fields_once cs fields a b (f.later c cs' x xs v r l more) (f.first c' cs'' x' xs' r' l') = absurd (ok_is_no_error v r' (column_once c x (Ok v) (Err r') l l'))
fields_once cs fields a b (f.later c cs' x xs v r l more) (f.later c' cs'' x' xs' v' r' l' more') = ap Err (same_error r r' (fields_once cs' xs (Err r) (Err r') more more'))

reads_once : (cs : List Column) (fields : Record) (a b : Result Row Refusal) → RecordReads cs fields a → RecordReads cs fields b → a ≡ b
reads_once cs fields a b (f.count n e) (f.count n' e') = e ∙ sym e'
reads_once cs fields a b (f.count n e) (f.each m l) = absurd (n m)
reads_once cs fields a b (f.each m l) (f.count n e) = absurd (n m)
reads_once cs fields a b (f.each m l) (f.each m' l') = fields_once cs fields a b l l'

true_and_false : (b : Bool) → IsTrue b → IsFalse b → ⊥
true_and_false true h e = absurd cc
true_and_false false h e = absurd cc

record_once : (t : Table) (before : List Row) (fields : Record) (a b : Result Row Refusal) → RecordLoads t before fields a → RecordLoads t before fields b → a ≡ b
record_once t before fields a b (f.unread r l e) (f.unread r' l' e') = e ∙ ap Err (same_error r r' (reads_once t.columns fields (Err r) (Err r') l l')) ∙ sym e'
record_once t before fields a b (f.unread r l e) (f.repeated row l' again e') = absurd (error_is_not_ok r row (reads_once t.columns fields (Err r) (Ok row) l l'))
record_once t before fields a b (f.unread r l e) (f.row row l' new e') = absurd (error_is_not_ok r row (reads_once t.columns fields (Err r) (Ok row) l l'))
record_once t before fields a b (f.repeated row l again e) (f.unread r l' e') = absurd (ok_is_no_error row r (reads_once t.columns fields (Ok row) (Err r) l l'))
record_once t before fields a b (f.repeated row l again e) (f.repeated row' l' again' e') = e ∙ sym e'
record_once t before fields a b (f.repeated row l again e) (f.row row' l' new e') =
    let is : row ≡ row' = same_ok row row' (reads_once t.columns fields (Ok row) (Ok row') l l') in
    absurd (true_and_false (repeats_key t.indexes before row') (rw is at again) new)
record_once t before fields a b (f.row row l new e) (f.unread r l' e') = absurd (ok_is_no_error row r (reads_once t.columns fields (Ok row) (Err r) l l'))
record_once t before fields a b (f.row row l new e) (f.repeated row' l' again e') =
    let is : row ≡ row' = same_ok row row' (reads_once t.columns fields (Ok row) (Ok row') l l') in
    absurd (true_and_false (repeats_key t.indexes before row') again (rw is at new))
record_once t before fields a b (f.row row l new e) (f.row row' l' new' e') = e ∙ ap Ok (same_ok row row' (reads_once t.columns fields (Ok row) (Ok row') l l')) ∙ sym e'

-- ---- what all records load as

pub all_once : (t : Table) (before : List Row) (records : List Record) (a b : List Row) → AllLoad t before records a → AllLoad t before records b → a ≡ b
all_once t before records a b (f.none before') (f.none before'') = refl
all_once t before records a b (f.next before' x xs row rows l more) (f.next before'' x' xs' row' rows' l' more') =
    let is : row ≡ row' = same_ok row row' (record_once t before x (Ok row) (Ok row') l l') in
    let there : AllLoad t (before ++ row' ∷ []) xs rows = rw is at more in
    ap₂ ◌∷◌ is (all_once t (before ++ row' ∷ []) xs rows rows' there more')

-- where all records of a list load, each loads behind those before it
record AtRecord (t : Table) (before : List Row) (front : List Record) (x : Record) (rows : List Row) : Type 0 where
  loaded : List Row
  row : Row
  rest : List Row
  are : rows ≡ loaded ++ row ∷ rest
  loads : AllLoad t before front loaded
  at : RecordLoads t (before ++ loaded) x (Ok row)

at_record : (t : Table) (before : List Row) (front : List Record) (x : Record) (after : List Record) (rows : List Row) → AllLoad t before (front ++ x ∷ after) rows → AtRecord t before front x rows
at_record t before [] x after rows (f.next before' x' xs row rows' l more) =
    record { loaded = []; row = row; rest = rows'; are = refl; loads = f.none before; at = rw (append-nil before) l }
at_record t before (y ∷ front) x after rows (f.next before' x' xs row rows' l more) =
    let rest = at_record t (before ++ row ∷ []) front x after rows' more in
    record {
      loaded = row ∷ rest.loaded;
      row = rest.row;
      rest = rest.rest;
      are = ap (λ rows. row ∷ rows) rest.are;
      loads = f.next before y front row rest.loaded l rest.loads;
      at = rw (append_assoc before (row ∷ []) rest.loaded) at rest.at;
    }

-- two places in a list are one, or one is before the other
abbrev Places : (xs ys : List Record) (x y : Record) → Type 0
Places xs ys x y = ((xs ≡ ys) × (x ≡ y)) ⊎ ((zs : List Record) × (ys ≡ xs ++ x ∷ zs)) ⊎ ((zs : List Record) × (xs ≡ ys ++ y ∷ zs))

places : (xs ys : List Record) (x y : Record) (us vs : List Record) → xs ++ x ∷ us ≡ ys ++ y ∷ vs → Places xs ys x y
places [] [] x y us vs e = inl (refl, cc)
places [] (y' ∷ ys) x y us vs e = let is : x ≡ y' = cc in inr (inl (ys, ap (λ z. z ∷ ys) (sym is)))
places (x' ∷ xs) [] x y us vs e = let is : x' ≡ y = cc in inr (inr (xs, ap (λ z. z ∷ xs) is))
places (x' ∷ xs) (y' ∷ ys) x y us vs e = of_rest (places xs ys x y us vs cc)
  where
    first : x' ≡ y'
    first = cc

    of_rest : Places xs ys x y → Places (x' ∷ xs) (y' ∷ ys) x y
    of_rest (inl (e, f)) = inl (ap₂ ◌∷◌ first e, f)
    of_rest (inr (inl (zs, e))) = inr (inl (zs, ap₂ ◌∷◌ (sym first) e))
    of_rest (inr (inr (zs, e))) = inr (inr (zs, ap₂ ◌∷◌ first e))

-- a record at which a list ends, and one that is refused there, are one; none that is refused stands before
module _ (t : Table) (records : List Record) where
  -- the rows before a record, where the records up to a later one are rows
  before_later : (xs zs : List Record) (x : Record) (rows all : List Row) → AllLoad t t.rows xs rows → AllLoad t t.rows (xs ++ x ∷ zs) all
      → (row : Row) × (rest : List Row) × (all ≡ rows ++ row ∷ rest) × RecordLoads t (t.rows ++ rows) x (Ok row)
  before_later xs zs x rows all l a =
      let at = at_record t t.rows xs x zs all a in
      let same : at.loaded ≡ rows = all_once t t.rows xs at.loaded rows at.loads l in
      (at.row, at.rest, at.are ∙ ap (λ loaded. loaded ++ at.row ∷ at.rest) same, rw same at at.at)

  refused_before : (xs zs : List Record) (x : Record) (rows all : List Row) (r : Refusal) → AllLoad t t.rows xs rows → RecordLoads t (t.rows ++ rows) x (Err r) → AllLoad t t.rows (xs ++ x ∷ zs) all → ⊥
  refused_before xs zs x rows all r l fails a =
      let at = before_later xs zs x rows all l a in
      ok_is_no_error at.0 r (record_once t (t.rows ++ rows) x (Ok at.0) (Err r) at.3 fails)

  pub all_or_refused : (rows : List Row) (r : Refusal) (n : ℕ) → AllLoad t t.rows records rows → FirstFaulty t records r n → ⊥
  all_or_refused rows r n a fault =
      let there : AllLoad t t.rows (fault.upto.before ++ fault.faulty ∷ fault.upto.after) rows = rw fault.upto.is at a in
      refused_before fault.upto.before fault.upto.after fault.faulty fault.rows rows r fault.upto.loads fault.fails there

  longer : (rows front : List Row) (row : Row) (rest : List Row) → rows ≡ front ++ row ∷ rest → length front < length rows
  longer rows front row rest e = let l = ap length e in let k = length-append front (row ∷ rest) in omega (arith, l, k)

  pub all_or_full : (rows : List Row) → AllLoad t t.rows records rows → length t.rows + length rows ≤ most_rows → FillsUp t records → ⊥
  all_or_full rows a few full =
      let there : AllLoad t t.rows (full.upto.before ++ full.last ∷ full.upto.after) rows = rw full.upto.is at a in
      let at = before_later full.upto.before full.upto.after full.last full.rows rows full.upto.loads there in
      let more = longer rows full.rows at.0 at.1 at.2 in
      let is = full.full in
      omega (arith, more, few, is)

  pub refused_or_full : (r : Refusal) (n : ℕ) → FirstFaulty t records r n → FillsUp t records → ⊥
  refused_or_full r n fault full = of_places (places fault.upto.before full.upto.before fault.faulty full.last fault.upto.after full.upto.after (sym fault.upto.is ∙ full.upto.is))
    where
      of_places : Places fault.upto.before full.upto.before fault.faulty full.last → ⊥
      of_places (inl (e, g)) =
          let there : AllLoad t t.rows full.upto.before fault.rows = rw e at fault.upto.loads in
          let same : fault.rows ≡ full.rows = all_once t t.rows full.upto.before fault.rows full.rows there full.upto.loads in
          let l = ap length same in
          let is = full.full in
          let room = fault.room in
          omega (arith, l, is, room)
      of_places (inr (inl (zs, e))) =
          let there : AllLoad t t.rows (fault.upto.before ++ fault.faulty ∷ zs) full.rows = rw e at full.upto.loads in
          refused_before fault.upto.before zs fault.faulty fault.rows full.rows r fault.upto.loads fault.fails there
      of_places (inr (inr (zs, e))) =
          let there : AllLoad t t.rows (full.upto.before ++ full.last ∷ zs) fault.rows = rw e at fault.upto.loads in
          let at = before_later full.upto.before zs full.last full.rows fault.rows full.upto.loads there in
          let more = longer fault.rows full.rows at.0 at.1 at.2 in
          let is = full.full in
          let room = fault.room in
          omega (arith, more, is, room)

  pub refused_once : (r r' : Refusal) (n n' : ℕ) → FirstFaulty t records r n → FirstFaulty t records r' n' → (r ≡ r') × (n ≡ n')
  refused_once r r' n n' a b = of_places (places a.upto.before b.upto.before a.faulty b.faulty a.upto.after b.upto.after (sym a.upto.is ∙ b.upto.is))
    where
      of_places : Places a.upto.before b.upto.before a.faulty b.faulty → (r ≡ r') × (n ≡ n')
      of_places (inl (e, g)) =
          let there : AllLoad t t.rows b.upto.before a.rows = rw e at a.upto.loads in
          let same : a.rows ≡ b.rows = all_once t t.rows b.upto.before a.rows b.rows there b.upto.loads in
          let fails : RecordLoads t (t.rows ++ b.rows) b.faulty (Err r) = rw (same, g) at a.fails in
          (same_error r r' (record_once t (t.rows ++ b.rows) b.faulty (Err r) (Err r') fails b.fails), a.number ∙ ap (λ rows. length rows + 1) same ∙ sym b.number)
      of_places (inr (inl (zs, e))) =
          let there : AllLoad t t.rows (a.upto.before ++ a.faulty ∷ zs) b.rows = rw e at b.upto.loads in
          absurd (refused_before a.upto.before zs a.faulty a.rows b.rows r a.upto.loads a.fails there)
      of_places (inr (inr (zs, e))) =
          let there : AllLoad t t.rows (b.upto.before ++ b.faulty ∷ zs) a.rows = rw e at a.upto.loads in
          absurd (refused_before b.upto.before zs b.faulty b.rows a.rows r' b.upto.loads b.fails there)
