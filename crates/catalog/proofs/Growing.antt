-- What LOAD makes of columns and their indexes.
use Rattle.std.proofs.Common.{◌≡◌, ◌∙◌, refl, sym, ap, ap₂, inl, inr, ℕ, zero, suc, ◌+◌, ◌-◌, ◌<◌, ◌≤◌, List, [], ◌∷◌, ◌++◌, Some, None, Bool, true, false, Ok, Err, length, map, take, get_or, arith}
use Rattle.std.specs.Prelude.{◌&&◌, ◌⊎◌, IsTrue, slice_get, option_map}
use Rattle.std.specs.List.{AllByRecursion}
use Rattle.std.proofs.lemmas.Bool.{cases_lt}
use Rattle.std.proofs.lemmas.List.{length-append, length-map, append-nil, append_assoc, get_or-map, get_or_append_left}
use Rattle.std.proofs.lemmas.List.Sorted.{length_permutation}
use Rattle.std.proofs.lemmas.List.Folds.{list_any_at}
use Rattle.std.proofs.lemmas.Option.{slice_get_within, get_or_from_slice_get, slice_get-map}
use Rattle.definitions.specs.Limits.{most_rows}
use Rattle.definitions.specs.Table.{Row, Index, Table, Column}
use Rattle.definitions.specs.Key.{Key, key_of, value_at, repeats, comes_again}
use Rattle.definitions.specs.IndexRun.{Entry, IsRun, entries_from}
use Rattle.definitions.specs.Refusal.{NullOrRepeated}
use Rattle.definitions.specs.Loading as load
use Rattle.definitions.specs.Loading.{Record, AreFileRecords, RecordReads, RecordLoads, AllRead, AllLoad, repeats_key}
use Rattle.loading.specs.Meaning.{record_refusal}
use Rattle.loading.specs.Stored.{StoredColumn, AreFilled, Extends, headers, rows_of}
use Rattle.loading.specs.Pushes.{Pushes, StopsAt}
use Rattle.loading.specs.declared.pushed.Pushed.{Pushed}
use Rattle.loading.specs.declared.pushed.StopReason.TheVariants as stop
use Rattle.loading.specs.declared.fault.RefusedRecord.{RefusedRecord}
use Rattle.loading.proofs.Rows.{length-rows_of}
use Rattle.loading.proofs.Loading.{grows, extends_rows}
use Rattle.indexes.specs.Indexes.{StoredIndex, IsBeginning}
use Rattle.indexes.specs.Extension.{IsBeginningOf, AreExtended, AreOnce, RepeatsIn, IsFirstRepeat, row_of}
use Rattle.indexes.specs.declared.extension.RepeatedRow.{RepeatedRow}
use Rattle.catalog.specs.Growth.{IsOf, IsOrdered, AreOrdered, Grows, row_before, TellsRepeated}
use Rattle.catalog.specs.Loads.{RefusesTable}
use Rattle.catalog.specs.declared.growth.Grown.{Grown}
use Rattle.catalog.specs.declared.fault.LoadFault.{LoadFault}
use Rattle.catalog.specs.declared.fault.LoadFault.TheVariants as l
use Rattle.definitions.proofs.Repeats.{repeats_neither}
use Rattle.catalog.proofs.Loading.{pair_apart, all_load}
use Rattle.catalog.proofs.Rows.{rows_many}

-- records were pushed onto the columns of n rows
pub record HasPushed (cs : List StoredColumn) (is : List StoredIndex) (n : ℕ) (bytes : List ℕ) (pushed : Pushed) (new : List StoredColumn) : Type 0 where
  pub filled : AreFilled n cs
  pub few : n ≤ most_rows
  pub ordered : AreOrdered cs n is
  pub pushes : Pushes cs bytes (most_rows - n) pushed new

-- what the columns have become
pub record Become (cs : List StoredColumn) (n : ℕ) (rows : List Row) (pushed : Pushed) (new : List StoredColumn) : Type 0 where
  pub filled : AreFilled (n + pushed.rows) new
  pub few : n + pushed.rows ≤ most_rows
  pub same_headers : headers new ≡ headers cs
  pub all_rows : rows_of (n + pushed.rows) new ≡ rows_of n cs ++ rows
  pub wide : length new ≡ length cs

pub become : (cs : List StoredColumn) (is : List StoredIndex) (n : ℕ) (bytes : List ℕ) (pushed : Pushed) (new : List StoredColumn) (h : HasPushed cs is n bytes pushed new) → Become cs n h.pushes.rows pushed new
become cs is n bytes pushed new h =
    let p = h.pushes in
    let g = grows (headers cs) n cs p.first p.rows refl h.filled p.read in
    let same : headers new ≡ headers cs = ap headers p.added ∙ g.same_headers in
    let filled = g.filled in
    record {
      filled = rw (p.count, p.added) filled;
      few = omega (arith, h.few, p.within);
      same_headers = same;
      all_rows = ap₂ (λ m xs. rows_of (n + m) xs) p.count p.added ∙ g.all_rows;
      wide = sym (length-map new (λ (c : StoredColumn). c.header)) ∙ ap length same ∙ length-map cs (λ (c : StoredColumn). c.header);
    }

pub pushed_extends : (cs : List StoredColumn) (bytes : List ℕ) (room : ℕ) (pushed : Pushed) (new : List StoredColumn) → Pushes cs bytes room pushed new → Extends cs new
pushed_extends cs bytes room pushed new p = rw p.added (extends_rows (headers cs) cs p.first p.rows refl p.read)

-- ---- the indexes have the first rows

length-entries_from : (row : ℕ) (keys : List Key) → length (entries_from row keys) ≡ length keys
length-entries_from row [] = refl
length-entries_from row (key ∷ keys) = ap suc (length-entries_from (row + 1) keys)

run_long : (keys : List Key) (entries : List Entry) → IsRun keys entries → length entries ≡ length keys
run_long keys entries run = length_permutation (entries_from 0 keys) entries run.0 ∙ length-entries_from 0 keys

take_front : (xs ys : List Row) → take (length xs) (xs ++ ys) ≡ xs
take_front [] ys = refl
take_front (x ∷ xs) ys = ap (λ zs. x ∷ zs) (take_front xs ys)

begins : (cs : List StoredColumn) (n : ℕ) (i : StoredIndex) (rows : List Row) → IsRun (map (key_of i.index.columns) (rows_of n cs)) i.entries → IsBeginning (rows_of n cs ++ rows) i
begins cs n i rows run =
    let long : length i.entries ≡ length (rows_of n cs) = run_long _ _ run ∙ length-map (rows_of n cs) (key_of i.index.columns) in
    let front : take (length i.entries) (rows_of n cs ++ rows) ≡ rows_of n cs =
    ap (λ m. take m (rows_of n cs ++ rows)) long ∙ take_front (rows_of n cs) rows in
    rw front run

all_begin : (cs : List StoredColumn) (n width : ℕ) (is : List StoredIndex) (all rows : List Row) → width ≡ length cs → all ≡ rows_of n cs ++ rows → AreOrdered cs n is → AllByRecursion (IsBeginningOf width all) is
all_begin cs n width [] all rows w e o = tt
all_begin cs n width (i ∷ is) all rows w e o = (record { on = rw w o.0.on; beginning = rw e (begins cs n i rows o.0.run) }, all_begin cs n width is all rows w e o.1)

pub beginnings : (cs : List StoredColumn) (is : List StoredIndex) (n : ℕ) (bytes : List ℕ) (pushed : Pushed) (new : List StoredColumn) → HasPushed cs is n bytes pushed new → AllByRecursion (IsBeginningOf (length new) (rows_of (n + pushed.rows) new)) is
beginnings cs is n bytes pushed new h = let b = become cs is n bytes pushed new h in all_begin cs n (length new) is _ h.pushes.rows b.wide b.all_rows h.ordered

-- ---- a repeated row is a new one

ordered_at : (cs : List StoredColumn) (n : ℕ) (is : List StoredIndex) (k : ℕ) (i : StoredIndex) → AreOrdered cs n is → slice_get is k ≡ Some i → IsOrdered cs n i
ordered_at cs n [] k i o e = absurd cc
ordered_at cs n (x ∷ is) zero i o e = let same : x ≡ i = cc in rw (← same) o.0
ordered_at cs n (x ∷ is) (suc k) i o e = ordered_at cs n is k i o.1 e

old_row : (cs : List StoredColumn) (n k : ℕ) (rows : List Row) → k < n → row_of (rows_of n cs ++ rows) k ≡ row_of (rows_of n cs) k
old_row cs n k rows h = get_or_append_left (rows_of n cs) rows [] k (omega (arith, h, length-rows_of n cs))

key_at : (columns : List ℕ) (rows : List Row) (k : ℕ) → k < length rows → key_of columns (row_of rows k) ≡ get_or (map (key_of columns) rows) k []
key_at columns rows k h = sym (get_or-map (key_of columns) rows k [] [] h)

clash : (b : Bool) → b ≡ true → b ≡ false → ⊥
clash true e h = cc
clash false e h = cc

other_way : (columns : List ℕ) (a b : Row) → repeats (key_of columns b) (key_of columns a) ≡ false → repeats (key_of columns a) (key_of columns b) ≡ false
other_way columns a b h = repeats_neither (key_of columns a) (key_of columns b) (length-map columns (value_at a) ∙ sym (length-map columns (value_at b))) h

not_old : (cs : List StoredColumn) (n row earlier : ℕ) (rows : List Row) (i : StoredIndex) → IsOrdered cs n i → RepeatsIn i (rows_of n cs ++ rows) row earlier → earlier < row → (row < n) ⊎ (n ≤ row) → n ≤ row
not_old cs n row earlier rows i o r e (inr h) = h
not_old cs n row earlier rows i o r e (inl h) =
    let columns = i.index.columns in
    let olds = rows_of n cs in
    let long : length olds ≡ n = length-rows_of n cs in
    let again = r.again in
    let keys_again : IsTrue (repeats (key_of columns (row_of olds row)) (key_of columns (row_of olds earlier))) = rw (old_row cs n row rows h, old_row cs n earlier rows (omega (arith, h, e))) at again in
    let apart = pair_apart (map (key_of columns) olds) earlier row [] (o.once r.unique) e (omega (arith, h, long, length-map olds (key_of columns))) in
    let apart' : repeats (key_of columns (row_of olds earlier)) (key_of columns (row_of olds row)) ≡ false = rw (key_at columns olds row (omega (arith, h, long)), key_at columns olds earlier (omega (arith, h, e, long))) apart in
    absurd (clash _ keys_again (other_way columns (row_of olds row) (row_of olds earlier) apart'))

pub repeated_is_new : (cs : List StoredColumn) (is : List StoredIndex) (n : ℕ) (bytes : List ℕ) (pushed : Pushed) (new : List StoredColumn) (r : RepeatedRow) → HasPushed cs is n bytes pushed new → IsFirstRepeat is (rows_of (n + pushed.rows) new) r → n ≤ r.row
repeated_is_new cs is n bytes pushed new r h f =
    let b = become cs is n bytes pushed new h in
    let again = f.again in
    not_old cs n r.row r.earlier h.pushes.rows f.index (ordered_at cs n is r.index f.index h.ordered f.named) (rw b.all_rows at again) f.earlier (cases_lt r.row n)

-- ---- what is told

once_of : (cs : List StoredColumn) (rows : List Row) (is new : List StoredIndex) (columns : List Column) → AreExtended columns rows is new → AreOnce rows is
once_of cs rows [] new columns h = tt
once_of cs rows (i ∷ is) [] columns h = absurd h
once_of cs rows (i ∷ is) (x ∷ new) columns h = (h.0.once, once_of cs rows is new columns h.1)

-- records that read as rows, parted at one
pub record ReadsUpTo (columns : List Column) (records : List Record) (rows : List Row) (j : ℕ) : Type 0 where
  pub before : List Record
  pub own : Record
  pub after : List Record
  pub first : List Row
  pub row : Row
  pub others : List Row
  pub records_are : records ≡ before ++ own ∷ after
  pub rows_are : rows ≡ first ++ row ∷ others
  pub many : length first ≡ j
  pub read : AllRead columns before first
  pub own_read : RecordReads columns own (Ok row)

pub reads_up_to : (columns : List Column) (records : List Record) (rows : List Row) (j : ℕ) → AllRead columns records rows → j < length rows → ReadsUpTo columns records rows j
reads_up_to columns records rows j load.none h = absurd (omega (arith, h))
reads_up_to columns records rows zero (load.next one more row rest r a) h =
    record { before = []; own = one; after = more; first = []; row = row; others = rest; records_are = refl; rows_are = refl; many = refl; read = load.none; own_read = r }
reads_up_to columns records rows (suc j) (load.next one more row rest r a) h =
    let u = reads_up_to columns more rest j a (omega (arith, h)) in
    record {
      before = one ∷ u.before;
      own = u.own;
      after = u.after;
      first = row ∷ u.first;
      row = u.row;
      others = u.others;
      records_are = ap (λ rs. one ∷ rs) u.records_are;
      rows_are = ap (λ rs. row ∷ rs) u.rows_are;
      many = ap suc u.many;
      read = load.next one u.before row u.first r u.read;
      own_read = u.own_read;
    }

at_end : (xs : List Row) (row : Row) (ys : List Row) (k : ℕ) → k ≡ length xs → row_of (xs ++ row ∷ ys) k ≡ row
at_end [] row ys zero e = refl
at_end [] row ys (suc k) e = absurd (omega (arith, e))
at_end (x ∷ xs) row ys zero e = absurd (omega (arith, e))
at_end (x ∷ xs) row ys (suc k) e = at_end xs row ys k (omega (arith, e))

both_true : (a b : Bool) → a ≡ true → b ≡ true → (a && b) ≡ true
both_true a b h l = rw (h, l) refl

again_in : (i : Index) (before : List Row) (row : Row) (earlier : ℕ) → earlier < length before → IsTrue (repeats (key_of i.columns row) (key_of i.columns (row_of before earlier))) → comes_again (map (key_of i.columns) before) (key_of i.columns row) ≡ true
again_in i before row earlier h e =
    list_any_at (repeats (key_of i.columns row)) (map (key_of i.columns) before) earlier [] (omega (arith, h, length-map before (key_of i.columns)))
    (ap (repeats (key_of i.columns row)) (sym (key_at i.columns before earlier h)) ∙ e)

repeats_some : (indexes : List Index) (k : ℕ) (i : Index) (before : List Row) (row : Row) → slice_get indexes k ≡ Some i → i.unique ≡ true → comes_again (map (key_of i.columns) before) (key_of i.columns row) ≡ true → repeats_key indexes before row ≡ true
repeats_some indexes k i before row e u c =
    list_any_at (λ (x : Index). x.unique && comes_again (map (key_of x.columns) before) (key_of x.columns row)) indexes k i (slice_get_within indexes k i e)
    (ap (λ (x : Index). x.unique && comes_again (map (key_of x.columns) before) (key_of x.columns row)) (get_or_from_slice_get indexes k i i e) ∙ both_true i.unique _ u c)

record_stop : (columns : List Column) (room rows : ℕ) (r : RefusedRecord) (left : List Record) → StopsAt columns room rows left (Some (stop.Record r))
    → (faulty : Record) × (after : List Record) × (left ≡ faulty ∷ after) × (rows < room) × RecordReads columns faulty (Err (record_refusal r.fault)) × (r.number ≡ rows + 1)
record_stop columns room rows r [] s = absurd s
record_stop columns room rows r (x ∷ left) s = (x, left, refl, s.0, s.1, s.2)

full_stop : (columns : List Column) (room rows : ℕ) (left : List Record) → StopsAt columns room rows left (Some stop.Full) → (further : Record) × (after : List Record) × (left ≡ further ∷ after) × (rows ≡ room)
full_stop columns room rows [] s = absurd s
full_stop columns room rows (x ∷ left) s = (x, left, refl, s)

no_stop : (columns : List Column) (room rows : ℕ) (left : List Record) → StopsAt columns room rows left None → left ≡ []
no_stop columns room rows [] s = refl
no_stop columns room rows (x ∷ left) s = absurd s

-- the rows of a table and those behind them
module _ (cs : List StoredColumn) (is : List StoredIndex) (n : ℕ) (bytes : List ℕ) (pushed : Pushed) (new : List StoredColumn) (h : HasPushed cs is n bytes pushed new) (t : Table) (o : IsOf cs is n t) where
  all_rows : rows_of (n + pushed.rows) new ≡ t.rows ++ h.pushes.rows
  all_rows = (become cs is n bytes pushed new h).all_rows ∙ ap (λ rows. rows ++ h.pushes.rows) (sym o.rows)

  reads : AllRead t.columns h.pushes.first h.pushes.rows
  reads = let read = h.pushes.read in rw o.columns read

  -- all records that were pushed load
  loads : AreOnce (rows_of (n + pushed.rows) new) is → AllLoad t t.rows h.pushes.first h.pushes.rows
  loads once = let once' : AreOnce (t.rows ++ h.pushes.rows) is = rw (← all_rows) once in all_load t is t.rows h.pushes.first h.pushes.rows o.indexes reads once'

  pub tells_record : (made : List StoredIndex) (r : RefusedRecord) → AreExtended (headers new) (rows_of (n + pushed.rows) new) is made → pushed.stopped ≡ Some (stop.Record r) → RefusesTable t bytes (l.Record r)
  tells_record made r e s =
      let stops : StopsAt (headers cs) (most_rows - n) pushed.rows h.pushes.left (Some (stop.Record r)) = let held = h.pushes.stops in rw (← s) held in
      let (faulty, after, left, room, refused, number) = record_stop (headers cs) (most_rows - n) pushed.rows r h.pushes.left stops in (
        h.pushes.first ++ h.pushes.left,
        h.pushes.records,
        record {
          rows = h.pushes.rows;
          faulty = faulty;
          upto = record { before = h.pushes.first; after = after; is = ap (λ xs. h.pushes.first ++ xs) left; loads = loads (once_of cs (rows_of (n + pushed.rows) new) is made (headers new) e) };
          room = omega (arith, room, h.few, rows_many cs is n t o, h.pushes.count);
          fails = load.unread (record_refusal r.fault) (rw o.columns refused) refl;
          number = number ∙ ap (λ m. m + 1) h.pushes.count;
        },
      )

  pub tells_full : (made : List StoredIndex) → AreExtended (headers new) (rows_of (n + pushed.rows) new) is made → pushed.stopped ≡ Some stop.Full → RefusesTable t bytes l.ManyRows
  tells_full made e s =
      let stops : StopsAt (headers cs) (most_rows - n) pushed.rows h.pushes.left (Some stop.Full) = let held = h.pushes.stops in rw (← s) held in
      let (further, after, left, full) = full_stop (headers cs) (most_rows - n) pushed.rows h.pushes.left stops in (
        h.pushes.first ++ h.pushes.left,
        h.pushes.records,
        record {
          rows = h.pushes.rows;
          last = further;
          upto = record { before = h.pushes.first; after = after; is = ap (λ xs. h.pushes.first ++ xs) left; loads = loads (once_of cs (rows_of (n + pushed.rows) new) is made (headers new) e) };
          full = omega (arith, full, h.few, rows_many cs is n t o, h.pushes.count);
        },
      )

  pub tells_all : (grown' : Grown) → AreExtended (headers new) (rows_of (n + pushed.rows) new) is grown'.indexes.items → pushed.stopped ≡ None → grown'.rows ≡ pushed.rows → Grows t bytes is cs new grown'
  tells_all grown' e s c =
      let stops : StopsAt (headers cs) (most_rows - n) pushed.rows h.pushes.left None = let held = h.pushes.stops in rw (← s) held in
      let none = no_stop (headers cs) (most_rows - n) pushed.rows h.pushes.left stops in
      let records : AreFileRecords bytes h.pushes.first = let all = h.pushes.records in rw (← (ap (λ xs. h.pushes.first ++ xs) none ∙ append-nil h.pushes.first)) all in
      let columns : headers new ≡ t.columns = (become cs is n bytes pushed new h).same_headers ∙ sym o.columns in
      record {
        records = h.pushes.first;
        rows = h.pushes.rows;
        read = records;
        loads = loads (once_of cs (rows_of (n + pushed.rows) new) is grown'.indexes.items (headers new) e);
        few = omega (arith, (become cs is n bytes pushed new h).few, rows_many cs is n t o, h.pushes.count);
        count = c ∙ h.pushes.count;
        added = h.pushes.added;
        extended = let moved : AreExtended t.columns (t.rows ++ h.pushes.rows) is grown'.indexes.items = rw (← columns, ← all_rows) e in moved;
      }

  -- the row that repeats a key, among the records
  repeated_at : (r : RepeatedRow) → IsFirstRepeat is (rows_of (n + pushed.rows) new) r → ReadsUpTo t.columns h.pushes.first h.pushes.rows (r.row - n)
  repeated_at r f =
      let later = repeated_is_new cs is n bytes pushed new r h f in
      let within = f.within in
      reads_up_to t.columns h.pushes.first h.pushes.rows (r.row - n) reads (omega (arith, later, within, ap length all_rows, length-append t.rows h.pushes.rows, rows_many cs is n t o))

  -- all rows, parted there
  parted : (r : RepeatedRow) (f : IsFirstRepeat is (rows_of (n + pushed.rows) new) r) → rows_of (n + pushed.rows) new ≡ (t.rows ++ (repeated_at r f).first) ++ (repeated_at r f).row ∷ (repeated_at r f).others
  parted r f = let u = repeated_at r f in all_rows ∙ ap (λ rows. t.rows ++ rows) u.rows_are ∙ sym (append_assoc t.rows u.first (u.row ∷ u.others))

  place : (r : RepeatedRow) (f : IsFirstRepeat is (rows_of (n + pushed.rows) new) r) → r.row ≡ length (t.rows ++ (repeated_at r f).first)
  place r f =
      let u = repeated_at r f in
      omega (arith, repeated_is_new cs is n bytes pushed new r h f, u.many, length-append t.rows u.first, rows_many cs is n t o)

  named : (r : RepeatedRow) (f : IsFirstRepeat is (rows_of (n + pushed.rows) new) r) → slice_get t.indexes r.index ≡ Some f.index.index
  named r f = ap (λ xs. slice_get xs r.index) o.indexes ∙ slice_get-map (λ (i : StoredIndex). i.index) is r.index ∙ ap (option_map (λ (i : StoredIndex). i.index)) f.named

  again : (r : RepeatedRow) (f : IsFirstRepeat is (rows_of (n + pushed.rows) new) r)
      → IsTrue (repeats (key_of f.index.index.columns (repeated_at r f).row) (key_of f.index.index.columns (row_of (t.rows ++ (repeated_at r f).first) r.earlier)))
  again r f =
      let u = repeated_at r f in
      let own : row_of (rows_of (n + pushed.rows) new) r.row ≡ u.row = ap (λ rows. row_of rows r.row) (parted r f) ∙ at_end (t.rows ++ u.first) u.row u.others r.row (place r f) in
      let old : row_of (rows_of (n + pushed.rows) new) r.earlier ≡ row_of (t.rows ++ u.first) r.earlier =
      ap (λ rows. row_of rows r.earlier) (parted r f) ∙ get_or_append_left (t.rows ++ u.first) (u.row ∷ u.others) [] r.earlier (omega (arith, f.earlier, place r f)) in
      let told = f.again.again in
      rw (← own, ← old) told

  pub tells_repeated : (r : RepeatedRow) (fault : LoadFault) → IsFirstRepeat is (rows_of (n + pushed.rows) new) r → TellsRepeated n r fault → RefusesTable t bytes fault
  tells_repeated r l.NoTable f told = absurd told
  tells_repeated r (l.Record x) f told = absurd told
  tells_repeated r l.ManyRows f told = absurd told
  tells_repeated r l.Memory f told = tt
  tells_repeated r (l.Repeated x) f told =
      let u = repeated_at r f in
      let (index_is, earlier_is, number_is) = told in
      let before' = f.before in
      let once : AreOnce (t.rows ++ u.first) is = rw (← (ap (λ rows. take r.row rows) (parted r f) ∙ ap (λ m. take m ((t.rows ++ u.first) ++ u.row ∷ u.others)) (place r f) ∙ take_front (t.rows ++ u.first) (u.row ∷ u.others))) before' in
      let number : x.number ≡ length u.first + 1 = omega (arith, number_is, place r f, length-append t.rows u.first, rows_many cs is n t o) in
      let fails : RecordLoads t (t.rows ++ u.first) u.own (Err NullOrRepeated) =
      load.repeated u.row u.own_read
      (repeats_some t.indexes r.index f.index.index (t.rows ++ u.first) u.row (named r f) f.again.unique
      (again_in f.index.index (t.rows ++ u.first) u.row r.earlier (omega (arith, f.earlier, place r f)) (again r f))) refl
      in
      let all_records : h.pushes.first ++ h.pushes.left ≡ u.before ++ u.own ∷ (u.after ++ h.pushes.left) = ap (λ xs. xs ++ h.pushes.left) u.records_are ∙ append_assoc u.before (u.own ∷ u.after) h.pushes.left in
      let earlier : row_before (length t.rows) x.earlier ≡ r.earlier = ap (λ m. row_before m x.earlier) (rows_many cs is n t o) ∙ earlier_is in
      let told_again = again r f in (
        h.pushes.first ++ h.pushes.left,
        h.pushes.records,
        record {
          rows = u.first;
          faulty = u.own;
          upto = record { before = u.before; after = u.after ++ h.pushes.left; is = all_records; loads = all_load t is t.rows u.before u.first o.indexes u.read once };
          room = omega (arith, f.within, place r f, length-append t.rows u.first, length-rows_of (n + pushed.rows) new, (become cs is n bytes pushed new h).few);
          fails = fails;
          number = number;
        },
        record {
          rows = u.first;
          row = u.row;
          before = u.before;
          after = u.after ++ h.pushes.left;
          own = u.own;
          is = all_records;
          read = u.read;
          own_read = u.own_read;
          number = number;
          index = f.index.index;
          named = ap (slice_get t.indexes) index_is ∙ named r f;
          unique = f.again.unique;
          earlier = omega (arith, earlier, f.earlier, place r f);
          again = rw earlier told_again;
        },
      )
