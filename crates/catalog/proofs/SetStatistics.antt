-- An index whose statistics are set.
use Rattle.std.proofs.Common.{◌≡◌, ◌∙◌, refl, sym, ap, ap₂, ℕ, zero, suc, ◌+◌, ◌-◌, ◌<◌, ◌≤◌, List, [], ◌∷◌, Some, Bool, true, false, cond, length, map, get_or, set, arith}
use Rattle.std.specs.Prelude.{IsFalse, bytes_eq, slice_get, option_map}
use Rattle.std.specs.List.{AllByRecursion, position_from}
use Rattle.std.proofs.lemmas.Slice.Eq.{bytes_eq-Decides}
use Rattle.definitions.specs.Limits.{most_index_columns}
use Rattle.definitions.specs.Value.{SqlType}
use Rattle.definitions.specs.Statement.{Name}
use Rattle.definitions.specs.Statement.{GivenStatistics as Given}
use Rattle.definitions.specs.Table.{Column, Index, IndexStatistics, Table, TableStatistics, is_on, column_numbers}
use Rattle.definitions.specs.Change.{with_index_statistics, first_type, StatisticsKept}
use Rattle.definitions.specs.Invariant.{AreApart, IsRange, IsTable, type_at}
use Rattle.definitions.proofs.Changes.{numbers_found, kept_range, index_set_is_table}
use Rattle.loading.specs.Stored.{StoredColumn, headers, rows_of}
use Rattle.indexes.specs.Indexes.{StoredIndex}
use Rattle.catalog.specs.Statistics.{IsGiven, RefusesGiven}
use Rattle.catalog.specs.Changes.{SetsIndex, RefusesStatistics}
use Rattle.catalog.specs.declared.fault.StatisticsFault.{StatisticsFault}
use Rattle.catalog.specs.declared.fault.StatisticsFault.TheVariants as f
use Rattle.catalog.specs.Growth.{AreOrdered}
use Rattle.catalog.specs.Tables.{table_of}
use Rattle.catalog.proofs.Rows.{of_view, columns_many, indexes_many}
use Rattle.catalog.proofs.TableIndexes.{index_found}

abbrev index_of : StoredIndex → Index
index_of i = i.index

abbrev pub reset : List ℕ → IndexStatistics → Index → Index
reset ns kept i = cond (is_on ns i) (record i { statistics = kept }) i

-- indexes on other lists stay
stays : (b : Bool) (j : Index) (kept : IndexStatistics) → b ≡ false → cond b (record j { statistics = kept }) j ≡ j
stays b j kept e = rw e refl

apart_stays : (x j : Index) (ns : List ℕ) → x.columns ≡ ns → bytes_eq x.columns j.columns ≡ false → (b : Bool) → is_on ns j ≡ b → b ≡ false
apart_stays x j ns e a true h =
    let same : j.columns ≡ ns = (bytes_eq-Decides j.columns ns).0 h in
    let both : bytes_eq x.columns j.columns ≡ true = (bytes_eq-Decides x.columns j.columns).1 (e ∙ sym same) in
    let clash : true ≡ false = sym both ∙ a in cc
apart_stays x j ns e a false h = refl

others_stay : (x : Index) (xs : List Index) (ns : List ℕ) (kept : IndexStatistics) → x.columns ≡ ns → AllByRecursion (λ (j : Index). IsFalse (bytes_eq x.columns j.columns)) xs → map (reset ns kept) xs ≡ xs
others_stay x [] ns kept e a = refl
others_stay x (j ∷ xs) ns kept e a = ap₂ (λ y ys. y ∷ ys) (stays (is_on ns j) j kept (apart_stays x j ns e a.0 (is_on ns j) refl)) (others_stay x xs ns kept e a.1)

-- the k-th index gets the statistics where it is the one on the list
abbrev IsSet : List ℕ → IndexStatistics → List StoredIndex → ℕ → Type 0
IsSet ns kept is k = (new : StoredIndex) → new.index ≡ record (get_or is k new).index { statistics = kept } → map index_of (set is k new) ≡ map (reset ns kept) (map index_of is)

changes : (b : Bool) (j : Index) (kept : IndexStatistics) → b ≡ true → cond b (record j { statistics = kept }) j ≡ record j { statistics = kept }
changes b j kept e = rw e refl

set_here : (ns : List ℕ) (kept : IndexStatistics) (x : StoredIndex) (is : List StoredIndex) → is_on ns x.index ≡ true → AreApart (map index_of (x ∷ is)) → IsSet ns kept (x ∷ is) 0
set_here ns kept x is e a new h =
    ap₂ (λ y ys. y ∷ ys) (h ∙ sym (changes (is_on ns x.index) x.index kept e)) (sym (others_stay x.index (map index_of is) ns kept ((bytes_eq-Decides x.index.columns ns).0 e) a.0))

set_later : (ns : List ℕ) (kept : IndexStatistics) (x : StoredIndex) (is : List StoredIndex) (k : ℕ) → is_on ns x.index ≡ false → IsSet ns kept is k → IsSet ns kept (x ∷ is) (suc k)
set_later ns kept x is k e s new h = ap₂ (λ y ys. y ∷ ys) (sym (stays (is_on ns x.index) x.index kept e)) (s new h)

set_by : (ns : List ℕ) (kept : IndexStatistics) (x : StoredIndex) (is : List StoredIndex) (i k : ℕ) (b : Bool) → is_on ns x.index ≡ b → AreApart (map index_of (x ∷ is)) → cond b (Some i) (position_from (is_on ns) (i + 1) (map index_of is)) ≡ Some k
    → (position_from (is_on ns) (i + 1) (map index_of is) ≡ Some k → (i + 1 ≤ k) × IsSet ns kept is (k - (i + 1))) → (i ≤ k) × IsSet ns kept (x ∷ is) (k - i)
set_by ns kept x is i k true e a h later =
    let same : i ≡ k = cc in
    let first : k - i ≡ 0 = omega arith in
    (omega arith, rw first (set_here ns kept x is e a))
set_by ns kept x is i k false e a h later =
    let (least, s) = later h in
    let next : k - i ≡ suc (k - (i + 1)) = omega (arith, least) in
    (omega (arith, least), rw next (set_later ns kept x is (k - (i + 1)) e s))

set_from : (ns : List ℕ) (kept : IndexStatistics) (is : List StoredIndex) (i k : ℕ) → AreApart (map index_of is) → position_from (is_on ns) i (map index_of is) ≡ Some k → (i ≤ k) × IsSet ns kept is (k - i)
set_from ns kept [] i k a h = absurd cc
set_from ns kept (x ∷ is) i k a h = set_by ns kept x is i k (is_on ns x.index) refl a h (set_from ns kept is (i + 1) k a.1)

pub set_at : (ns : List ℕ) (kept : IndexStatistics) (is : List StoredIndex) (k : ℕ) (new : StoredIndex) → AreApart (map index_of is) → Some k ≡ position_from (is_on ns) 0 (map index_of is) → new.index ≡ record (get_or is k new).index { statistics = kept }
    → map index_of (set is k new) ≡ map (reset ns kept) (map index_of is)
set_at ns kept is k new a h e = let same : k - 0 ≡ k = omega arith in let all = (set_from ns kept is 0 k a (sym h)).1 in (rw same at all) new e

-- and the order stays
pub still_ordered : (cs : List StoredColumn) (n : ℕ) (is : List StoredIndex) (k : ℕ) (new : StoredIndex) → AreOrdered cs n is → new.index.columns ≡ (get_or is k new).index.columns → new.index.unique ≡ (get_or is k new).index.unique
    → new.entries ≡ (get_or is k new).entries → AreOrdered cs n (set is k new)
still_ordered cs n [] k new o c u e = tt
still_ordered cs n (x ∷ is) zero new o c u e = (record { on = rw c o.0.on; run = rw (c, e) o.0.run; once = λ h. rw c (o.0.once (sym u ∙ h)) }, o.1)
still_ordered cs n (x ∷ is) (suc k) new o c u e = (o.0, still_ordered cs n is k new o.1 c u e)

-- what becomes of a table
pub record StatisticsSet (name : Name) (cs : List StoredColumn) (is : List StoredIndex) (n : ℕ) (f : TableStatistics) (t : Table) (names : List Name) (given : Given) : Type 0 where
  pub ordered : AreOrdered cs n is
  pub valid : IsTable (table_of name cs is n f)
  pub sets : SetsIndex t names given (table_of name cs is n f)

pub statistics_set : (name : Name) (cs : List StoredColumn) (is : List StoredIndex) (k n : ℕ) (f : TableStatistics) (t : Table) (ns : List ℕ) (names : List Name) (given : Given) (type : SqlType) (kept : IndexStatistics) (new : StoredIndex) → table_of name cs is n f ≡ t
    → AreOrdered cs n is → IsTable (table_of name cs is n f) → 0 < length names → length names ≤ most_index_columns → column_numbers t.columns names ≡ Some ns → Some k ≡ position_from (is_on ns) 0 t.indexes → first_type t.columns names ≡ Some type
    → IsGiven given → StatisticsKept type given kept → new.index ≡ record (get_or is k new).index { statistics = kept } → new.entries ≡ (get_or is k new).entries → StatisticsSet name cs (set is k new) n f t names given
statistics_set name cs is k n f t ns names given type kept new v ordered valid some short found place first may keeps e entries =
    let o = of_view name cs is n f t v in
    let own : Some k ≡ position_from (is_on ns) 0 (map index_of is) = place ∙ ap (position_from (is_on ns) 0) o.indexes in
    let all = set_at ns kept is k new valid.apart own e in
    let whole : table_of name cs (set is k new) n f ≡ with_index_statistics t ns kept =
    ap (λ xs. record { name = name; columns = headers cs; indexes = xs; rows = rows_of n cs; statistics = f }) all ∙ ap (λ (u : Table). with_index_statistics u ns kept) v in
    let numbers = numbers_found t.columns names ns found in
    let typed : type_at t.columns ns ≡ Some type = sym numbers.typed ∙ first in
    let fits : IsRange (Some type) keeps.0 = kept_range type given.range keeps.0 keeps.1 may.rising in
    let valid' : IsTable t = rw v at valid in
    let (taken, on) = index_found t.indexes ns k place in
    record {
      ordered = still_ordered cs n is k new ordered (ap (λ (i : Index). i.columns) e) (ap (λ (i : Index). i.unique) e) entries;
      valid = rw whole (index_set_is_table t ns kept valid' (rw keeps.2 may.keys) (rw keeps.2 may.pages) (rw (keeps.2, typed) fits));
      sets = record { numbers = ns; index = taken; type = type; kept = kept; some = some; short = short; found = found; on = on; first = first; may = may; keeps = keeps; is = whole };
    }

-- the type of the first column of a list
first_of : (cs : List StoredColumn) (n : ℕ) (c : StoredColumn) → n < length cs → c ≡ get_or cs n c → option_map (λ (x : Column). x.type) (slice_get (headers cs) n) ≡ Some c.header.type
first_of [] n c h e = absurd (omega (arith, h))
first_of (x ∷ cs) zero c h e = ap (λ (y : StoredColumn). Some y.header.type) (sym e)
first_of (x ∷ cs) (suc n) c h e = first_of cs n c (omega (arith, h)) e

pub first_within : (width : ℕ) (ns : List ℕ) (n : ℕ) → 0 < length ns → AllByRecursion (λ m. m < width) ns → n ≡ get_or ns 0 n → n < width
first_within width [] n some there e = absurd (omega (arith, some))
first_within width (m ∷ ns) n some there e = rw e there.0

pub first_type_is : (cs : List StoredColumn) (columns : List Column) (names : List Name) (ns : List ℕ) (n : ℕ) (c : StoredColumn) → columns ≡ headers cs → column_numbers columns names ≡ Some ns → 0 < length ns → AllByRecursion (λ m. m < length cs) ns
    → n ≡ get_or ns 0 n → c ≡ get_or cs n c → first_type columns names ≡ Some c.header.type
first_type_is cs columns names [] n c h found some there first e = absurd (omega (arith, some))
first_type_is cs columns names (m ∷ ns) n c h found some there first e =
    (numbers_found columns names (m ∷ ns) found).typed ∙ ap (λ hs. option_map (λ (x : Column). x.type) (slice_get hs m)) h ∙ first_of cs m c there.0 (rw (← first) e)

pub same_at : (is : List StoredIndex) (k : ℕ) (x y : StoredIndex) → k < length is → x ≡ get_or is k x → get_or is k y ≡ x
same_at [] k x y h e = absurd (omega (arith, h))
same_at (i ∷ is) zero x y h e = sym e
same_at (i ∷ is) (suc k) x y h e = same_at is k x y (omega (arith, h)) e

-- the same, of what the code knows
pub statistics_set_at : (name : Name) (cs : List StoredColumn) (is : List StoredIndex) (k n first : ℕ) (f : TableStatistics) (t : Table) (list ns : List ℕ) (names : List Name) (given : Given) (c : StoredColumn) (type : SqlType) (kept : IndexStatistics) (old new : StoredIndex)
    → table_of name cs is n f ≡ t → AreOrdered cs n is → IsTable (table_of name cs is n f) → 0 < length names → length names ≤ most_index_columns → column_numbers t.columns names ≡ Some list → 0 < length list
    → AllByRecursion (λ m. m < length t.columns) list → ns ≡ list → Some k ≡ position_from (is_on ns) 0 t.indexes → k < length t.indexes → first ≡ get_or list 0 first → c ≡ get_or cs first c → type ≡ c.header.type → IsGiven given → StatisticsKept type given kept
    → old ≡ get_or is k old → new.index ≡ record old.index { statistics = kept } → new.entries ≡ old.entries → StatisticsSet name cs (set is k new) n f t names given
statistics_set_at name cs is k n first f t list ns names given c type kept old new v ordered valid some short found many there asked place within start e typed may keeps here changed entries =
    let o = of_view name cs is n f t v in
    let there' : AllByRecursion (λ m. m < length cs) list = rw (← columns_many cs is n t o) there in
    let place' : Some k ≡ position_from (is_on list) 0 t.indexes = place ∙ ap (λ ms. position_from (is_on ms) 0 t.indexes) asked in
    let same : get_or is k new ≡ old = same_at is k old new (omega (arith, within, indexes_many cs is n t o)) here in
    let starts : first_type t.columns names ≡ Some type = first_type_is cs t.columns names list first c o.columns found many there' start e ∙ ap (λ x. Some x) (sym typed) in
    let index_e : new.index ≡ record (get_or is k new).index { statistics = kept } = changed ∙ ap (λ (i : StoredIndex). record i.index { statistics = kept }) (sym same) in
    statistics_set name cs is k n f t list names given type kept new v ordered valid some short found place' starts may keeps index_e (entries ∙ ap (λ (i : StoredIndex). i.entries) (sym same))

-- why they are refused, for an index that is there
pub refused_statistics : (t : Table) (names : List Name) (given : Given) (type : SqlType) (fault : StatisticsFault) → first_type t.columns names ≡ Some type → RefusesGiven type given fault → RefusesStatistics t names given fault
refused_statistics t names given type (f.List fault) first h = absurd h.2
refused_statistics t names given type f.NoIndex first h = absurd h.2
refused_statistics t names given type f.Keys first h = (type, first, h)
refused_statistics t names given type f.Pages first h = (type, first, h)
refused_statistics t names given type f.Texts first h = (type, first, h)
refused_statistics t names given type (f.Unfit end) first h = (type, first, h)
refused_statistics t names given type f.Falls first h = (type, first, h)
