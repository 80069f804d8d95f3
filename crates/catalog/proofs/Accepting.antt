-- Which statements on a table are accepted, and why the others are refused.
use Rattle.std.proofs.Common.{◌≡◌, ◌∙◌, sym, ap, ℕ, ◌<◌, ◌≤◌, List, [], Option, Some, None, Bool, true, false, Result, Ok, Err, length, map, get_or, set, arith}
use Rattle.std.specs.Prelude.{IfSome, OnOk, OnErr}
use Rattle.std.proofs.lemmas.List.{set-get_or, get_or-map, length-map}
use Rattle.definitions.specs.Limits.{most_index_columns}
use Rattle.definitions.specs.Value.{SqlType, Texts, Char, kind_of}
use Rattle.definitions.specs.Refusal.{Refusal, NameTaken, NotFound, OverLimit, MixedKinds}
use Rattle.definitions.specs.Statement.{Name, Range, Statement, CreateIndex, SetTableStatistics, SetIndexStatistics}
use Rattle.definitions.specs.Statement.{GivenStatistics as Given}
use Rattle.definitions.specs.Table.{Table, Database, table_named, column_numbers, index_on}
use Rattle.definitions.specs.Key.{key_of, value_at, repeats, AreUnique}
use Rattle.definitions.specs.Change as made
use Rattle.definitions.specs.Change.{Makes, first_type, StatisticsKept}
use Rattle.definitions.specs.IndexFaults as index
use Rattle.definitions.specs.IndexFaults.{ListFaulty, BoundsFaulty, Falls}
use Rattle.definitions.specs.Faults as faults
use Rattle.definitions.specs.Faults.{Faulty, IsAccepted}
use Rattle.definitions.specs.Invariant.{IsCount, IsPageCount, IsDatabase}
use Rattle.definitions.proofs.Changes.{made_database}
use Rattle.definitions.proofs.Repeats.{repeats_neither}
use Rattle.indexes.specs.Repeats.{IsFirstRepeated}
use Rattle.indexes.specs.declared.repeated.RepeatedKey.{RepeatedKey}
use Rattle.catalog.specs.Lists.{RefusesList}
use Rattle.catalog.specs.Statistics.{RefusesRange, RefusesGiven}
use Rattle.catalog.specs.Changes.{MayIndex, RefusesNewIndex, RefusesIndex, SetsIndex, RefusesStatistics, RefusesTableStatistics}
use Rattle.catalog.specs.Meaning.{list_refusal, statistics_refusal, table_statistics_refusal}
use Rattle.catalog.specs.declared.fault.ListFault.{ListFault}
use Rattle.catalog.specs.declared.fault.ListFault.TheVariants as list
use Rattle.catalog.specs.declared.fault.IndexFault.{IndexFault}
use Rattle.catalog.specs.declared.fault.IndexFault.TheVariants as i
use Rattle.catalog.specs.declared.fault.StatisticsFault.{StatisticsFault}
use Rattle.catalog.specs.declared.fault.StatisticsFault.TheVariants as f
use Rattle.catalog.specs.declared.fault.TableStatisticsFault.{TableStatisticsFault}
use Rattle.catalog.specs.declared.fault.TableStatisticsFault.TheVariants as t
use Rattle.catalog.specs.declared.fault.RangeEnd.TheVariants as e
use Rattle.catalog.proofs.Loading.{pair_apart}

-- a name has one table, and one list of numbers
one_table : (db : Database) (name : Name) (t u : Table) → table_named db name ≡ Some t → table_named db name ≡ Some u → t ≡ u
one_table db name t u n m = let same : Some t ≡ Some u = sym n ∙ m in cc

one_list : (o : Option (List ℕ)) (ns ms : List ℕ) → o ≡ Some ns → o ≡ Some ms → ns ≡ ms
one_list o ns ms n m = let same : Some ns ≡ Some ms = sym n ∙ m in cc

-- ---- lists of columns

no_list_fault : (db : Database) (name : Name) (t : Table) (names : List Name) (ns : List ℕ) (r : Refusal) → table_named db name ≡ Some t → column_numbers t.columns names ≡ Some ns → 0 < length names → length names ≤ most_index_columns → ListFaulty db name names r → ⊥
no_list_fault db name t names ns r n e some short (index.no_table h) = let clash : Some t ≡ None = sym n ∙ h in cc
no_list_fault db name t names ns r n e some short (index.no_column u m h) =
    let same : t ≡ u = one_table db name t u n m in
    let clash : Some ns ≡ None = sym e ∙ ap (λ (x : Table). column_numbers x.columns names) same ∙ h in cc
no_list_fault db name t names ns r n e some short (index.empty h) = omega (arith, some, ap length h)
no_list_fault db name t names ns r n e some short (index.many h) = omega (arith, short, h)

list_fault : (db : Database) (name : Name) (t : Table) (names : List Name) (fault : ListFault) → table_named db name ≡ Some t → RefusesList t.columns names fault → IfSome (list_refusal fault) (ListFaulty db name names)
list_fault db name t names list.NoTable n h = absurd h
list_fault db name t names (list.NoColumn column) n h = index.no_column t n h
list_fault db name t names list.Empty n h = index.empty h
list_fault db name t names list.ManyColumns n h = index.many h
list_fault db name t names list.Memory n h = tt

if_index : (db : Database) (unique : Bool) (name : Name) (names : List Name) (o : Option Refusal) → IfSome o (ListFaulty db name names) → IfSome o (Faulty db (CreateIndex unique name names))
if_index db unique name names None h = tt
if_index db unique name names (Some r) h = faults.index unique name names r (index.list r h)

if_statistics : (db : Database) (name : Name) (names : List Name) (given : Given) (o : Option Refusal) → IfSome o (ListFaulty db name names) → IfSome o (Faulty db (SetIndexStatistics name names given))
if_statistics db name names given None h = tt
if_statistics db name names given (Some r) h = faults.statistics name names given r (index.list r h)

-- ---- CREATE INDEX

pub index_accepted : (db : Database) (unique : Bool) (name : Name) (t : Table) (names : List Name) (ns : List ℕ) → table_named db name ≡ Some t → MayIndex t names ns → IsAccepted db (CreateIndex unique name names)
index_accepted db unique name t names ns n m refusal (faults.index b table columns r (index.list r' h)) = no_list_fault db name t names ns r' n m.found m.some m.short h
index_accepted db unique name t names ns n m refusal (faults.index b table columns r (index.twice h)) = h m.distinct
index_accepted db unique name t names ns n m refusal (faults.index b table columns r (index.taken u ms i k e o)) =
    let same : t ≡ u = one_table db name t u n k in
    let numbers : ns ≡ ms = one_list (column_numbers t.columns names) ns ms m.found (ap (λ (x : Table). column_numbers x.columns names) same ∙ e) in
    let clash : None ≡ Some i = sym m.free ∙ ap (index_on t.indexes) numbers ∙ ap (λ (x : Table). index_on x.indexes ms) same ∙ o in cc
index_accepted db unique name t names ns n m refusal (faults.index b table columns r (index.many u k h)) =
    let same : t ≡ u = one_table db name t u n k in
    omega (arith, h, m.few, ap (λ (x : Table). length x.indexes) same)

-- a key that repeats an earlier one is not unique
keys_long : (ns : List ℕ) (t : Table) (k j : ℕ) → k < length t.rows → j < length t.rows → length (get_or (map (key_of ns) t.rows) k []) ≡ length (get_or (map (key_of ns) t.rows) j [])
keys_long ns t k j h l =
    ap length (get_or-map (key_of ns) t.rows k [] [] h) ∙ length-map ns (value_at (get_or t.rows k [])) ∙ sym (length-map ns (value_at (get_or t.rows j []))) ∙ ap length (sym (get_or-map (key_of ns) t.rows j [] [] l))

clash : (b : Bool) → b ≡ true → b ≡ false → ⊥
clash true e h = cc
clash false e h = cc

repeated_apart : (ns : List ℕ) (t : Table) (r : RepeatedKey) → IsFirstRepeated (map (key_of ns) t.rows) r → AreUnique (map (key_of ns) t.rows) → ⊥
repeated_apart ns t r f u =
    let keys = map (key_of ns) t.rows in
    let many : length keys ≡ length t.rows = length-map t.rows (key_of ns) in
    let apart = pair_apart keys r.earlier r.row [] u f.earlier f.within in
    clash (repeats (get_or keys r.row []) (get_or keys r.earlier [])) f.again
    (repeats_neither (get_or keys r.row []) (get_or keys r.earlier []) (keys_long ns t r.row r.earlier (omega (arith, f.within, many)) (omega (arith, f.within, f.earlier, many))) apart)

pub index_refused : (db : Database) (unique : Bool) (name : Name) (t : Table) (names : List Name) (fault : IndexFault) → table_named db name ≡ Some t → RefusesNewIndex t unique names fault → RefusesIndex db unique name names fault
index_refused db unique name t names (i.List fault) n h = if_index db unique name names (list_refusal fault) (list_fault db name t names fault n h)
index_refused db unique name t names (i.ColumnTwice column) n h = faults.index unique name names NameTaken (index.twice h)
index_refused db unique name t names (i.ListTaken k) n h = let (ns, taken, found, on) = h in faults.index unique name names NameTaken (index.taken t ns taken n found on)
index_refused db unique name t names i.ManyIndexes n h = faults.index unique name names OverLimit (index.many t n h)
index_refused db unique name t names (i.Repeated key) n h =
    let (ns, may, u, first) = h in (
      index_accepted db unique name t names ns n may,
      made.repeated name names t ns (ap (λ b. CreateIndex b name names) u) n may.found (λ unique'. repeated_apart ns t key first unique'),
      (t, n, (ns, may.found, first)),
    )
index_refused db unique name t names i.Memory n h = tt

-- ---- SET STATISTICS

pub table_set_accepted : (db : Database) (name : Name) (rows pages : ℕ) (t : Table) → table_named db name ≡ Some t → IsCount rows → IsPageCount pages → IsAccepted db (SetTableStatistics name rows pages)
table_set_accepted db name rows pages t n r p refusal (faults.no_such_table table rows' pages' h) = let clash : Some t ≡ None = sym n ∙ h in cc
table_set_accepted db name rows pages t n r p refusal (faults.out_of_range table rows' pages' h) = h (r, p)

pub table_set_refused : (db : Database) (name : Name) (rows pages : ℕ) (fault : TableStatisticsFault) → RefusesTableStatistics rows pages fault → Faulty db (SetTableStatistics name rows pages) (table_statistics_refusal fault)
table_set_refused db name rows pages t.NoTable h = absurd h
table_set_refused db name rows pages t.Rows h = faults.out_of_range name rows pages (λ k. h k.0)
table_set_refused db name rows pages t.Pages h = faults.out_of_range name rows pages (λ k. h k.1)

-- texts have no LOW and HIGH
kept_numbers : (type : SqlType) (given : Given) (kept : _) (r : Range) → StatisticsKept type given kept → given.range ≡ Some r → (low : _) × made.KeptAs type r.low low
kept_numbers type given kept r k e = let held = rw e at k.1 in (held.0, held.2)

kept_high : (type : SqlType) (given : Given) (kept : _) (r : Range) → StatisticsKept type given kept → given.range ≡ Some r → (high : _) × made.KeptAs type r.high high
kept_high type given kept r k e = let held = rw e at k.1 in (held.1, held.3)

no_text : (type : SqlType) (r : Range) (low : _) → kind_of type ≡ Texts → made.KeptAs type r.low low → ⊥
no_text (Char n) r low e k = k.0.1
no_text type r low e k = cc

no_bounds_fault : (type : SqlType) (given : Given) (kept : _) (r : Range) (refusal : Refusal) → StatisticsKept type given kept → given.range ≡ Some r → BoundsFaulty type r refusal → ⊥
no_bounds_fault type given kept r refusal k e (index.low_unfit numbers h) = let (low, held) = kept_numbers type given kept r k e in h low held
no_bounds_fault type given kept r refusal k e (index.high_unfit numbers h) = let (high, held) = kept_high type given kept r k e in h high held
no_bounds_fault type given kept r refusal k e (index.text texts) = let (low, held) = kept_numbers type given kept r k e in no_text type r low texts held

one_type : (o : Option SqlType) (a b : SqlType) → o ≡ Some a → o ≡ Some b → a ≡ b
one_type o a b h l = let same : Some a ≡ Some b = sym h ∙ l in cc

pub index_set_accepted : (db : Database) (name : Name) (t new : Table) (names : List Name) (given : Given) → table_named db name ≡ Some t → SetsIndex t names given new → IsAccepted db (SetIndexStatistics name names given)
index_set_accepted db name t new names given n s refusal (faults.statistics table columns g r (index.list r' h)) = no_list_fault db name t names s.numbers r' n s.found s.some s.short h
index_set_accepted db name t new names given n s refusal (faults.statistics table columns g r (index.no_index u ms k e o)) =
    let same : t ≡ u = one_table db name t u n k in
    let numbers : s.numbers ≡ ms = one_list (column_numbers t.columns names) s.numbers ms s.found (ap (λ (x : Table). column_numbers x.columns names) same ∙ e) in
    let clash' : Some s.index ≡ None = sym s.on ∙ ap (index_on t.indexes) numbers ∙ ap (λ (x : Table). index_on x.indexes ms) same ∙ o in cc
index_set_accepted db name t new names given n s refusal (faults.statistics table columns g r (index.out_of_range h)) = h (s.may.keys, s.may.pages)
index_set_accepted db name t new names given n s refusal (faults.statistics table columns g r (index.fall range e h)) = s.may.rising range e h
index_set_accepted db name t new names given n s refusal (faults.statistics table columns g r (index.bounds u type range r' k e held h)) =
    let same : t ≡ u = one_table db name t u n k in
    let types : s.type ≡ type = one_type (first_type t.columns names) s.type type s.first (ap (λ (x : Table). first_type x.columns names) same ∙ e) in
    no_bounds_fault s.type given s.kept range r' s.keeps held (rw types h)

range_fault : (db : Database) (name : Name) (t : Table) (names : List Name) (given : Given) (type : SqlType) (r : Range) (fault : StatisticsFault) → table_named db name ≡ Some t → first_type t.columns names ≡ Some type → given.range ≡ Some r
    → RefusesRange type r fault → IfSome (statistics_refusal fault) (Faulty db (SetIndexStatistics name names given))
range_fault db name t names given type r f.Texts n e g h = faults.statistics name names given MixedKinds (index.bounds t type r MixedKinds n e g (index.text h))
range_fault db name t names given type r (f.Unfit e.Low) n x g h = faults.statistics name names given OverLimit (index.bounds t type r OverLimit n x g (index.low_unfit h.0 h.1))
range_fault db name t names given type r (f.Unfit e.High) n x g h = faults.statistics name names given OverLimit (index.bounds t type r OverLimit n x g (index.high_unfit h.0 h.1))
range_fault db name t names given type r f.Falls n e g h = faults.statistics name names given OverLimit (index.fall r g h)
range_fault db name t names given type r f.Keys n e g h = absurd h
range_fault db name t names given type r f.Pages n e g h = absurd h
range_fault db name t names given type r f.NoIndex n e g h = absurd h
range_fault db name t names given type r (f.List x) n e g h = absurd h

given_fault : (db : Database) (name : Name) (t : Table) (names : List Name) (given : Given) (type : SqlType) (fault : StatisticsFault) → table_named db name ≡ Some t → first_type t.columns names ≡ Some type → RefusesGiven type given fault
    → IfSome (statistics_refusal fault) (Faulty db (SetIndexStatistics name names given))
given_fault db name t names given type f.Keys n e h = faults.statistics name names given OverLimit (index.out_of_range (λ k. h k.0))
given_fault db name t names given type f.Pages n e h = faults.statistics name names given OverLimit (index.out_of_range (λ k. h k.1))
given_fault db name t names given type f.Texts n e h = let (r, g, k) = h in range_fault db name t names given type r f.Texts n e g k
given_fault db name t names given type (f.Unfit end) n e h = let (r, g, k) = h in range_fault db name t names given type r (f.Unfit end) n e g k
given_fault db name t names given type f.Falls n e h = let (r, g, k) = h in range_fault db name t names given type r f.Falls n e g k
given_fault db name t names given type f.NoIndex n e h = let (r, g, k) = h in absurd k
given_fault db name t names given type (f.List x) n e h = let (r, g, k) = h in absurd k

pub index_set_refused : (db : Database) (name : Name) (t : Table) (names : List Name) (given : Given) (fault : StatisticsFault) → table_named db name ≡ Some t → RefusesStatistics t names given fault → IfSome (statistics_refusal fault) (Faulty db (SetIndexStatistics name names given))
index_set_refused db name t names given (f.List fault) n h = if_statistics db name names given (list_refusal fault) (list_fault db name t names fault n h)
index_set_refused db name t names given f.NoIndex n h = let (ns, found, on) = h in faults.statistics name names given NotFound (index.no_index t ns n found on)
index_set_refused db name t names given f.Keys n h = let (type, e, k) = h in given_fault db name t names given type f.Keys n e k
index_set_refused db name t names given f.Pages n h = let (type, e, k) = h in given_fault db name t names given type f.Pages n e k
index_set_refused db name t names given f.Texts n h = let (type, e, k) = h in given_fault db name t names given type f.Texts n e k
index_set_refused db name t names given (f.Unfit end) n h = let (type, e, k) = h in given_fault db name t names given type (f.Unfit end) n e k
index_set_refused db name t names given f.Falls n h = let (type, e, k) = h in given_fault db name t names given type f.Falls n e k

-- ---- a statement on the table at a place

-- a refused statement leaves the database as it was
pub unchanged : (db : Database) (k : ℕ) (old new : Table) → old ≡ get_or db k old → new ≡ old → set db k new ≡ db
unchanged db k old new e h = ap (set db k) (h ∙ e) ∙ set-get_or db k old

-- what a statement made at a place is a database
pub made_at : {E : Type 0} (r : Result (Unit {0}) E) (db new : Database) (s : Statement) → IsDatabase db → OnOk r (IsAccepted db s) → OnOk r (Makes db s new) → OnErr r (new ≡ db) → IsDatabase new
made_at (Ok u) db new s h a m e = made_database db new s h a m
made_at (Err f) db new s h a m e = rw e h
