-- Records that are pushed as rows, one after another.
use Rattle.std.proofs.Common.{◌≡◌, ◌∙◌, refl, sym, ap, ap₂, ℕ, zero, suc, ◌+◌, ◌<◌, ◌≤◌, List, [], ◌∷◌, ◌++◌, Result, Some, None, Ok, Err, Bool, true, false, length, Bor, arith}
use Rattle.std.specs.Bool.{OnTrue, OnFalse}
use Rattle.std.proofs.lemmas.List.{append-nil, append_assoc, length-map, length_push, get_or_append_left, get_or_push}
use Rattle.csv.specs.declared.reader.Reader.{Reader}
use Rattle.definitions.specs.Value.{Null}
use Rattle.definitions.specs.Table.{Column, Row}
use Rattle.definitions.specs.Refusal.{Refusal}
use Rattle.definitions.specs.Loading as load
use Rattle.definitions.specs.Loading.{Record, AreFileRecords, FieldsLoad, RecordReads, AllRead}
use Rattle.loading.specs.Meaning.{record_refusal}
use Rattle.loading.specs.Files.{HasRead}
use Rattle.loading.specs.Pushes.{Pushes}
use Rattle.loading.specs.Stored.{StoredColumn, AreFilled, headers, row_at, rows_of, with_row, with_rows, Extends}
use Rattle.loading.specs.declared.fault.RecordFault.{RecordFault}
use Rattle.loading.specs.declared.fault.RefusedRecord.{RefusedRecord}
use Rattle.loading.specs.declared.pushed.StopReason.TheVariants as stop
use Rattle.loading.proofs.Pushing.{extends_same, extends_row, extends_then}
use Rattle.loading.proofs.Reading.{read_few, read_first}

-- a row has a value for each column
row_of_fields : (columns : List Column) (fields : Record) (o : Result Row Refusal) (row : Row) → FieldsLoad columns fields o → o ≡ Ok row → length row ≡ length columns
row_of_fields columns fields o row load.none e = let k : [] ≡ row = cc in ap length (sym k)
row_of_fields columns fields o row (load.next c cs f fs v more l s) e = let k : v ∷ more ≡ row = cc in ap length (sym k) ∙ ap suc (row_of_fields cs fs (Ok more) more s refl)
row_of_fields columns fields o row (load.first c cs f fs x l) e = absurd cc
row_of_fields columns fields o row (load.later c cs f fs v r l s) e = absurd cc

pub row_of_record : (columns : List Column) (fields : Record) (row : Row) → RecordReads columns fields (Ok row) → length row ≡ length columns
row_of_record columns fields row (load.count h e) = absurd cc
row_of_record columns fields row (load.each h s) = row_of_fields columns fields (Ok row) row s refl

-- a row on columns
headers-with_row : (cs : List StoredColumn) (row : Row) → length row ≡ length cs → headers (with_row cs row) ≡ headers cs
headers-with_row [] [] h = refl
headers-with_row [] (v ∷ row) h = refl
headers-with_row (c ∷ cs) [] h = absurd (omega (arith, h))
headers-with_row (c ∷ cs) (v ∷ row) h = ap (λ hs. c.header ∷ hs) (headers-with_row cs row (omega (arith, h)))

filled-with_row : (n : ℕ) (cs : List StoredColumn) (row : Row) → length row ≡ length cs → AreFilled n cs → AreFilled (n + 1) (with_row cs row)
filled-with_row n [] row h f = tt
filled-with_row n (c ∷ cs) [] h f = absurd (omega (arith, h))
filled-with_row n (c ∷ cs) (v ∷ row) h f = (length_push c.values v ∙ ap (λ m. m + 1) f.0, filled-with_row n cs row (omega (arith, h)) f.1)

earlier-with_row : (k n : ℕ) (cs : List StoredColumn) (row : Row) → k < n → length row ≡ length cs → AreFilled n cs → row_at k (with_row cs row) ≡ row_at k cs
earlier-with_row k n [] row l h f = refl
earlier-with_row k n (c ∷ cs) [] l h f = absurd (omega (arith, h))
earlier-with_row k n (c ∷ cs) (v ∷ row) l h f =
    ap₂ (λ x xs. x ∷ xs) (get_or_append_left c.values (v ∷ []) Null k (omega (arith, l, f.0))) (earlier-with_row k n cs row l (omega (arith, h)) f.1)

last-with_row : (n : ℕ) (cs : List StoredColumn) (row : Row) → length row ≡ length cs → AreFilled n cs → row_at n (with_row cs row) ≡ row
last-with_row n [] [] h f = refl
last-with_row n [] (v ∷ row) h f = absurd (omega (arith, h))
last-with_row n (c ∷ cs) [] h f = absurd (omega (arith, h))
last-with_row n (c ∷ cs) (v ∷ row) h f = ap₂ (λ x xs. x ∷ xs) (get_or_push c.values v Null n f.0) (last-with_row n cs row (omega (arith, h)) f.1)

rows-with_row : (m n : ℕ) (cs : List StoredColumn) (row : Row) → m ≤ n → length row ≡ length cs → AreFilled n cs → rows_of m (with_row cs row) ≡ rows_of m cs
rows-with_row zero n cs row l h f = refl
rows-with_row (suc m) n cs row l h f = ap₂ (λ rows r. rows ++ r ∷ []) (rows-with_row m n cs row (omega (arith, l)) h f) (earlier-with_row m n cs row (omega (arith, l)) h f)

-- rows on columns
rows_on : (n : ℕ) (cs : List StoredColumn) (row : Row) → length row ≡ length cs → AreFilled n cs → rows_of (n + 1) (with_row cs row) ≡ rows_of n cs ++ row ∷ []
rows_on n cs row h f =
    let e : n + 1 ≡ suc n = omega arith in
    ap (λ k. rows_of k (with_row cs row)) e ∙ ap₂ (λ rows r. rows ++ r ∷ []) (rows-with_row n n cs row (omega arith) h f) (last-with_row n cs row h f)

-- what columns become by the rows of records
pub record Grows (n : ℕ) (cs : List StoredColumn) (rows : List Row) : Type 0 where
  pub same_headers : headers (with_rows cs rows) ≡ headers cs
  pub filled : AreFilled (n + length rows) (with_rows cs rows)
  pub all_rows : rows_of (n + length rows) (with_rows cs rows) ≡ rows_of n cs ++ rows

pub grows : (columns : List Column) (n : ℕ) (cs : List StoredColumn) (records : List Record) (rows : List Row) → columns ≡ headers cs → AreFilled n cs → AllRead columns records rows → Grows n cs rows
grows columns n cs records rows e f load.none =
    let k : n + 0 ≡ n = omega arith in
    record {
      same_headers = refl;
      filled = rw k f;
      all_rows = ap (λ m. rows_of m cs) k ∙ sym (append-nil (rows_of n cs));
    }
grows columns n cs records rows e f (load.next one more row rest r a) =
    let own : length row ≡ length cs = row_of_record columns one row r ∙ ap length e ∙ length-map cs (λ (c : StoredColumn). c.header) in
    let same = headers-with_row cs row own in
    let g = grows columns (n + 1) (with_row cs row) more rest (e ∙ sym same) (filled-with_row n cs row own f) a in
    let k : n + suc (length rest) ≡ n + 1 + length rest = omega arith in
    let filled = g.filled in
    record {
      same_headers = g.same_headers ∙ same;
      filled = rw k filled;
      all_rows = ap (λ m. rows_of m (with_rows (with_row cs row) rest)) k ∙ g.all_rows ∙ ap (λ xs. xs ++ rest) (rows_on n cs row own f) ∙ append_assoc (rows_of n cs) (row ∷ []) rest;
    }

-- ---- one record more

with_rows-push : (cs : List StoredColumn) (rows : List Row) (row : Row) → with_rows cs (rows ++ row ∷ []) ≡ with_row (with_rows cs rows) row
with_rows-push cs [] row = refl
with_rows-push cs (r ∷ rows) row = with_rows-push (with_row cs r) rows row

all_push : (columns : List Column) (records : List Record) (rows : List Row) (one : Record) (row : Row) → AllRead columns records rows → RecordReads columns one (Ok row) → AllRead columns (records ++ one ∷ []) (rows ++ row ∷ [])
all_push columns records rows one row load.none r = load.next one [] row [] r load.none
all_push columns records rows one row (load.next first more row' rest s a) r = load.next first (more ++ one ∷ []) row' (rest ++ row ∷ []) s (all_push columns more rest one row a r)

pub length-all : (columns : List Column) (records : List Record) (rows : List Row) → AllRead columns records rows → length rows ≡ length records
length-all columns records rows load.none = refl
length-all columns records rows (load.next one more row rest s a) = ap suc (length-all columns more rest a)

pub headers-with_rows : (columns : List Column) (cs : List StoredColumn) (records : List Record) (rows : List Row) → columns ≡ headers cs → AllRead columns records rows → headers (with_rows cs rows) ≡ headers cs
headers-with_rows columns cs records rows e load.none = refl
headers-with_rows columns cs records rows e (load.next one more row rest r a) =
    let own : length row ≡ length cs = row_of_record columns one row r ∙ ap length e ∙ length-map cs (λ (c : StoredColumn). c.header) in
    headers-with_rows columns (with_row cs row) more rest (e ∙ sym (headers-with_row cs row own)) a ∙ headers-with_row cs row own

pub extends_rows : (columns : List Column) (cs : List StoredColumn) (records : List Record) (rows : List Row) → columns ≡ headers cs → AllRead columns records rows → Extends cs (with_rows cs rows)
extends_rows columns cs records rows e load.none = extends_same cs
extends_rows columns cs records rows e (load.next one more row rest r a) =
    let own : length row ≡ length cs = row_of_record columns one row r ∙ ap length e ∙ length-map cs (λ (c : StoredColumn). c.header) in
    extends_then cs (with_row cs row) (with_rows (with_row cs row) rest) (extends_row cs row own)
    (extends_rows columns (with_row cs row) more rest (e ∙ sym (headers-with_row cs row own)) a)

-- the records that a reader has read are pushed as rows
pub record HavePushedRecords (old now : List StoredColumn) (bytes : List ℕ) (reader : Reader (Bor (List ℕ))) (number : ℕ) : Type 0 where
  pub records : List Record
  pub rows : List Row
  pub has_read : HasRead bytes reader records
  pub read : AllRead (headers old) records rows
  pub count : number ≡ length rows
  pub pushed : now ≡ with_rows old rows

-- nothing is read yet
pub nothing_read : (columns : List StoredColumn) (bytes : List ℕ) (reader : Reader (Bor (List ℕ))) → HasRead bytes reader [] → HavePushedRecords columns columns bytes reader 0
nothing_read columns bytes reader h = record { records = []; rows = []; has_read = h; read = load.none; count = refl; pushed = refl }

pub pushed_extends : (old now : List StoredColumn) (bytes : List ℕ) (reader : Reader (Bor (List ℕ))) (number : ℕ) → HavePushedRecords old now bytes reader number → Extends old now
pushed_extends old now bytes reader number p = rw p.pushed (extends_rows (headers old) old p.records p.rows refl p.read)

pub same_columns : (old now : List StoredColumn) (bytes : List ℕ) (reader : Reader (Bor (List ℕ))) (number : ℕ) → HavePushedRecords old now bytes reader number → headers now ≡ headers old
same_columns old now bytes reader number p = ap headers p.pushed ∙ headers-with_rows (headers old) old p.records p.rows refl p.read

pub filled_so_far : (old now : List StoredColumn) (bytes : List ℕ) (reader : Reader (Bor (List ℕ))) (number len : ℕ) → AreFilled len old → HavePushedRecords old now bytes reader number → AreFilled (len + number) now
filled_so_far old now bytes reader number len f p = rw (p.count, p.pushed) (grows (headers old) len old p.records p.rows refl f p.read).filled

-- another record is found by the reader
abbrev pub IsNext : List ℕ → (reader reader' : Reader (Bor (List ℕ))) → Record → Type 0
IsNext bytes reader reader' one = (records : List Record) → HasRead bytes reader records → HasRead bytes reader' (records ++ one ∷ [])

-- there are as many bytes at least
pub number_fits : (old now : List StoredColumn) (bytes : List ℕ) (reader reader' : Reader (Bor (List ℕ))) (number : ℕ) (one : Record) → HavePushedRecords old now bytes reader number → IsNext bytes reader reader' one
    → number + 1 ≤ length bytes
number_fits old now bytes reader reader' number one p next =
    omega (arith, p.count, length-all (headers old) p.records p.rows p.read, read_few bytes reader' (p.records ++ one ∷ []) (next p.records p.has_read), length_push p.records one)

pub one_record : (old now new : List StoredColumn) (bytes : List ℕ) (reader reader' : Reader (Bor (List ℕ))) (number : ℕ) (one : Record) → HavePushedRecords old now bytes reader number → IsNext bytes reader reader' one
    → (row : Row) → RecordReads (headers now) one (Ok row) → new ≡ with_row now row → HavePushedRecords old new bytes reader' (number + 1)
one_record old now new bytes reader reader' number one p next row r e =
    let r' = rw (same_columns old now bytes reader number p) at r in
    record {
      records = p.records ++ one ∷ [];
      rows = p.rows ++ row ∷ [];
      has_read = next p.records p.has_read;
      read = all_push (headers old) p.records p.rows one row p.read r';
      count = ap (λ m. m + 1) p.count ∙ sym (length_push p.rows row);
      pushed = e ∙ ap (λ cs. with_row cs row) p.pushed ∙ sym (with_rows-push old p.rows row);
    }

-- the records of the file, where another one is found
all_found : (old now : List StoredColumn) (bytes : List ℕ) (reader reader' : Reader (Bor (List ℕ))) (number : ℕ) (one : Record) (p : HavePushedRecords old now bytes reader number) → IsNext bytes reader reader' one
    → (after : List Record) × AreFileRecords bytes (p.records ++ one ∷ after)
all_found old now bytes reader reader' number one p next =
    let (after, all) = read_first bytes reader' (p.records ++ one ∷ []) (next p.records p.has_read) in
    (after, rw (append_assoc p.records (one ∷ []) after) at all)

-- it is no row
pub no_record : (old now new : List StoredColumn) (bytes : List ℕ) (reader reader' : Reader (Bor (List ℕ))) (number room : ℕ) (one : Record) (fault : RecordFault) (r : RefusedRecord)
    → HavePushedRecords old now bytes reader number → IsNext bytes reader reader' one → RecordReads (headers now) one (Err (record_refusal fault)) → new ≡ now → number + 1 ≤ room
    → r.fault ≡ fault → r.number ≡ number + 1 → Pushes old bytes room (record { rows = number; stopped = Some (stop.Record r) }) new
no_record old now new bytes reader reader' number room one fault r p next refused same fits same_fault same_number =
    let (after, all) = all_found old now bytes reader reader' number one p next in
    let refused' = rw (same_columns old now bytes reader number p) at refused in
    let stops : RecordReads (headers old) one (Err (record_refusal r.fault)) = rw same_fault refused' in
    record {
      first = p.records;
      left = one ∷ after;
      rows = p.rows;
      records = all;
      read = p.read;
      count = p.count;
      added = same ∙ p.pushed;
      within = omega (arith, fits);
      stops = (omega (arith, fits), stops, same_number);
    }

-- there is no room for it
pub no_room : (old now : List StoredColumn) (bytes : List ℕ) (reader reader' : Reader (Bor (List ℕ))) (number room : ℕ) (one : Record) → HavePushedRecords old now bytes reader number → IsNext bytes reader reader' one → number ≡ room
    → Pushes old bytes room (record { rows = number; stopped = Some stop.Full }) now
no_room old now bytes reader reader' number room one p next full =
    let (after, all) = all_found old now bytes reader reader' number one p next in
    record { first = p.records; left = one ∷ after; rows = p.rows; records = all; read = p.read; count = p.count; added = p.pushed; within = omega (arith, full); stops = full }

-- there is none
pub all_records : (old now : List StoredColumn) (bytes : List ℕ) (reader : Reader (Bor (List ℕ))) (number room : ℕ) → HavePushedRecords old now bytes reader number → number ≤ room
    → ((records : List Record) → HasRead bytes reader records → AreFileRecords bytes records) → Pushes old bytes room (record { rows = number; stopped = None }) now
all_records old now bytes reader number room p within end =
    record {
      first = p.records;
      left = [];
      rows = p.rows;
      records = rw (append-nil p.records) (end p.records p.has_read);
      read = p.read;
      count = p.count;
      added = p.pushed;
      within = within;
      stops = tt;
    }

-- what a test of a bool gives
pub is_next : (found : Bool) (bytes : List ℕ) (reader reader' : Reader (Bor (List ℕ))) (one : Record) → found ≡ true
    → OnTrue found ((bytes : List ℕ) (records : List Record) → HasRead bytes reader records → HasRead bytes reader' (records ++ one ∷ [])) → IsNext bytes reader reader' one
is_next true bytes reader reader' one h p = p bytes
is_next false bytes reader reader' one h p = absurd cc

pub on_false : (b : Bool) (P : Type 0) → b ≡ false → OnFalse b P → P
on_false true P h p = absurd cc
on_false false P h p = p

-- a push that is not whole
pub partly_pushed : (old now new : List StoredColumn) (bytes : List ℕ) (reader : Reader (Bor (List ℕ))) (number : ℕ) → HavePushedRecords old now bytes reader number → new ≡ now → Extends old new
partly_pushed old now new bytes reader number p e = rw e (pushed_extends old now bytes reader number p)

pub below : (m n : ℕ) → m ≤ n → (m ≡ n → ⊥) → m + 1 ≤ n
below m n h k = omega (arith, h, k)
