-- Statistics that are counted lie in their ranges.
use Rattle.std.proofs.Common.{◌≡◌, refl, ℕ, zero, suc, ◌*◌, ◌/◌, ◌<◌, ◌≤◌, List, [], ◌∷◌, Option, Some, None, Bool, true, false, cond, length, map, arith}
use Rattle.std.specs.Prelude.{ℤ, ◌≤ℤ◌, not, filter, filter_map, fold, slice_get, sum_by, option_map}
use Rattle.std.specs.Int.{int_min, int_max}
use Rattle.std.specs.List.{AllByRecursion, cons_option}
use Rattle.std.specs.Ordering.{is_eq}
use Rattle.std.proofs.lemmas.Bool.Decides.{nat_tests}
use Rattle.std.proofs.lemmas.Int.{ints, fold-int_min_bounds, fold-int_max_bounds}
use Rattle.std.proofs.lemmas.List.{length-map}
use Rattle.std.proofs.lemmas.List.Sums.{sum_by-cons, length-filter, count_by-le-length}
use Rattle.std.proofs.Math.Nat.{div-le_self, mul-le-mul}
use Rattle.definitions.specs.Limits.{most_columns, most_rows, most_index_columns}
use Rattle.definitions.specs.Value.{Value, Null, Number, Text, SqlType, Smallint, Integer, Numeric, Char, HasType, IsType, IsInRange}
use Rattle.definitions.specs.Table.{Column, Row, IsRow}
use Rattle.definitions.specs.Key.{Key, key_of, key_rank, has_null, value_at, full_keys, distinct_keys}
use Rattle.definitions.specs.Statistics.{bytes_of, bytes_at, row_width, entry_width, pages_for, units_of, range_of, index_statistics, table_statistics}
use Rattle.definitions.specs.Invariant.{IsCount, IsPageCount, IsRange, type_at}

-- ---- pages

bytes_few : (t : SqlType) → IsType t → bytes_of t ≤ 254
bytes_few Smallint h = omega arith
bytes_few Integer h = omega arith
bytes_few (Numeric p s) h = omega arith
bytes_few (Char n) h = h.1

columns_few : (cs : List Column) → AllByRecursion (λ (c : Column). IsType c.type) cs → sum_by (λ (c : Column). bytes_of c.type) cs ≤ length cs * 254
columns_few [] h = omega arith
columns_few (c ∷ cs) h = omega (arith, sum_by-cons (λ (c : Column). bytes_of c.type) c cs, bytes_few c.type h.0, columns_few cs h.1)

at_few : (cs : List Column) (n : ℕ) → AllByRecursion (λ (c : Column). IsType c.type) cs → bytes_at cs n ≤ 254
at_few [] n h = omega arith
at_few (c ∷ cs) zero h = bytes_few c.type h.0
at_few (c ∷ cs) (suc n) h = at_few cs n h.1

numbers_few : (cs : List Column) (ns : List ℕ) → AllByRecursion (λ (c : Column). IsType c.type) cs → sum_by (bytes_at cs) ns ≤ length ns * 254
numbers_few cs [] h = omega arith
numbers_few cs (n ∷ ns) h = omega (arith, sum_by-cons (bytes_at cs) n ns, at_few cs n h, numbers_few cs ns h)

pages_fit : (count width : ℕ) → count ≤ most_rows → width ≤ 20000 → IsPageCount (pages_for count width)
pages_fit count width h l =
    let product : count * width ≤ 100000000 * 20000 = mul-le-mul h l in
    let quotient : (count * width) / 4096 ≤ count * width = div-le_self (count * width) 4096 in
    (omega (arith), omega (arith, product, quotient))

pub table_pages : (cs : List Column) (rows : List Row) → length cs ≤ most_columns → AllByRecursion (λ (c : Column). IsType c.type) cs → length rows ≤ most_rows → IsPageCount (table_statistics cs rows).pages
table_pages cs rows narrow types few = pages_fit (length rows) (row_width cs) few (omega (arith, narrow, columns_few cs types))

pub index_pages : (cs : List Column) (rows : List Row) (ns : List ℕ) → length ns ≤ most_index_columns → AllByRecursion (λ (c : Column). IsType c.type) cs → length rows ≤ most_rows → IsPageCount (index_statistics cs rows ns).pages
index_pages cs rows ns short types few = pages_fit (length rows) (entry_width cs ns) few (omega (arith, short, numbers_few cs ns types))

-- ---- keys

fewer : {X : Type 0} (p : X → Bool) (xs : List X) → length (filter p xs) ≤ length xs
fewer p xs = omega (arith, length-filter p xs, count_by-le-length p xs)

distinct_fewer : (keys : List Key) → length (distinct_keys keys) ≤ length keys
distinct_fewer [] = omega arith
distinct_fewer (key ∷ keys) = omega (arith, fewer (λ other. not (is_eq (key_rank key other))) (distinct_keys keys), distinct_fewer keys)

pub index_keys : (cs : List Column) (rows : List Row) (ns : List ℕ) → length rows ≤ most_rows → IsCount (index_statistics cs rows ns).keys
index_keys cs rows ns few =
    let keys = map (key_of ns) rows in
    omega (arith, few, length-map rows (key_of ns), fewer (λ key. not (has_null key)) keys, distinct_fewer (full_keys keys))

-- ---- the range

-- a value of a row has the type of its column
pub typed_value : (cs : List Column) (row : Row) (n : ℕ) (c : Column) → IsRow cs row → slice_get cs n ≡ Some c → HasType c.type (value_at row n)
typed_value [] row n c h e = absurd cc
typed_value (d ∷ cs) [] n c h e = absurd h
typed_value (d ∷ cs) (v ∷ row) zero c h e = let k : d ≡ c = cc in rw (← k) h.0
typed_value (d ∷ cs) (v ∷ row) (suc n) c h e = typed_value cs row n c h.1 e

unit_typed : (t : SqlType) (v : Value) (us : List ℤ) → HasType t v → AllByRecursion (IsInRange t) us → AllByRecursion (IsInRange t) (cons_option (units_of v) us)
unit_typed t Null us h a = a
unit_typed t (Number u s) us h a = (h.1, a)
unit_typed t (Text codes) us h a = a

units_typed : (cs : List Column) (rows : List Row) (n : ℕ) (c : Column) → AllByRecursion (IsRow cs) rows → slice_get cs n ≡ Some c
    → AllByRecursion (IsInRange c.type) (filter_map (λ row. units_of (value_at row n)) rows)
units_typed cs [] n c h e = tt
units_typed cs (row ∷ rows) n c h e = unit_typed c.type (value_at row n) _ (typed_value cs row n c h.0 e) (units_typed cs rows n c h.1 e)

-- the least and the greatest of units in a range are in it
least_of_two : (P : ℤ → Type 0) (u v : ℤ) (b : Bool) → P u → P v → P (cond b v u)
least_of_two P u v true h l = l
least_of_two P u v false h l = h

min_in : (P : ℤ → Type 0) (u : ℤ) (us : List ℤ) → P u → AllByRecursion P us → P (fold int_min u us)
min_in P u [] h a = h
min_in P u (v ∷ us) h a = min_in P (int_min u v) us (least_of_two P u v _ h a.0) a.1

max_in : (P : ℤ → Type 0) (u : ℤ) (us : List ℤ) → P u → AllByRecursion P us → P (fold int_max u us)
max_in P u [] h a = h
max_in P u (v ∷ us) h a = max_in P (int_max u v) us (least_of_two P v u _ a.0 h) a.1

not_above : (a b c : ℤ) → a ≤ℤ b → b ≤ℤ c → a ≤ℤ c
not_above a b c h l = grind (arith, nat_tests, ints)

range_fits : (t : SqlType) (us : List ℤ) → AllByRecursion (IsInRange t) us → IsRange (Some t) (range_of us)
range_fits t [] a = tt
range_fits t (u ∷ us) a =
    let low = (fold-int_min_bounds u us (fold int_min u us) refl).0 in
    let high = (fold-int_max_bounds u us (fold int_max u us) refl).0 in
    (not_above _ u _ low high, min_in (IsInRange t) u us a.0 a.1, max_in (IsInRange t) u us a.0 a.1)

none_behind : (cs : List Column) (n : ℕ) → slice_get cs n ≡ None → n < length cs → ⊥
none_behind [] n e h = omega (arith, h)
none_behind (c ∷ cs) zero e h = cc
none_behind (c ∷ cs) (suc n) e h = none_behind cs n e (omega (arith, h))

range_at : (cs : List Column) (rows : List Row) (n : ℕ) (o : Option Column) → slice_get cs n ≡ o → n < length cs → AllByRecursion (IsRow cs) rows
    → IsRange (option_map (λ (c : Column). c.type) o) (range_of (filter_map (λ row. units_of (value_at row n)) rows))
range_at cs rows n (Some c) e h typed = range_fits c.type _ (units_typed cs rows n c typed e)
range_at cs rows n None e h typed = absurd (none_behind cs n e h)

pub index_range : (cs : List Column) (rows : List Row) (ns : List ℕ) → AllByRecursion (λ n. n < length cs) ns → AllByRecursion (IsRow cs) rows
    → IsRange (type_at cs ns) (index_statistics cs rows ns).range
index_range cs rows [] h typed = tt
index_range cs rows (n ∷ ns) h typed = range_at cs rows n (slice_get cs n) refl h.0 typed
