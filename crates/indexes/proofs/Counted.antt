-- Statistics that are counted in columns and in the order of rows.
use Rattle.std.proofs.Common.{◌≡◌, ◌∙◌, refl, sym, ap, ap₂, ℕ, zero, suc, ◌+◌, ◌<◌, List, [], ◌∷◌, ◌++◌, Option, Some, None, Bool, length, map, take, get_or, arith}
use Rattle.std.specs.Prelude.{ℤ, filter_map, sum_by}
use Rattle.std.specs.Int.{int_min, int_max}
use Rattle.std.specs.List.{AllByRecursion, cons_option}
use Rattle.std.proofs.lemmas.List.{take_more, take-map, map-append}
use Rattle.std.proofs.lemmas.List.Elements.{filter_map-append}
use Rattle.std.proofs.lemmas.List.Sums.{fold_push, sum_by_push}
use Rattle.sqlvalue.specs.Meaning.{value_of}
use Rattle.sqlvalue.specs.declared.number.Num.{Num}
use Rattle.sqlvalue.specs.declared.value.Value as code
use Rattle.sqlvalue.specs.declared.value.Value.TheVariants as variants
use Rattle.definitions.specs.Value.{Value, Null, Number}
use Rattle.definitions.specs.Table.{Column, Row, KeyRange, IndexStatistics}
use Rattle.definitions.specs.Key.{Key, key_of, value_at}
use Rattle.definitions.specs.IndexRun.{Entry, IsRun}
use Rattle.definitions.specs.Statistics.{bytes_of, bytes_at, units_of, range_of, first_numbers}
use Rattle.loading.specs.Stored.{StoredColumn, headers, rows_of, AreFilled}
use Rattle.loading.proofs.Rows.{column_values}
use Rattle.indexes.specs.Ranges.{widened_by}
use Rattle.indexes.specs.Inside.{first_units}
use Rattle.indexes.proofs.Clustered.{keys_once}

range_push : (us : List ℤ) (u : ℤ) → range_of (us ++ u ∷ []) ≡ Some (widened_by (range_of us) u)
range_push [] u = refl
range_push (v ∷ us) u = ap₂ (λ l h. Some (record { low = l; high = h })) (fold_push int_min v us u) (fold_push int_max v us u)

one_more : (values : List Value) (row : ℕ) → row < length values → filter_map units_of (take (row + 1) values) ≡ filter_map units_of (take row values) ++ filter_map units_of (get_or values row Null ∷ [])
one_more values row h = ap (filter_map units_of) (take_more values row Null h) ∙ filter_map-append units_of (take row values) (get_or values row Null ∷ [])

-- a number widens the range, and a null or a text does not
pub with_number : (values : List Value) (row : ℕ) (v : Value) (units : ℤ) (scale : ℕ) (range : Option KeyRange) (wider : KeyRange) → row < length values → v ≡ get_or values row Null → v ≡ Number units scale
    → range ≡ range_of (filter_map units_of (take row values)) → wider ≡ widened_by range units → Some wider ≡ range_of (filter_map units_of (take (row + 1) values))
with_number values row v units scale range wider h e n r w =
    let is : get_or values row Null ≡ Number units scale = sym e ∙ n in
    ap Some (w ∙ ap (λ x. widened_by x units) r) ∙ sym (range_push (filter_map units_of (take row values)) units)
    ∙ ap (λ x. range_of (filter_map units_of (take row values) ++ filter_map units_of (x ∷ []))) (sym is) ∙ ap range_of (sym (one_more values row h))

no_units : (us : List ℤ) (v : Value) → units_of v ≡ None → us ++ filter_map units_of (v ∷ []) ≡ us ++ []
no_units us v e = ap (λ o. us ++ cons_option o []) e

nil_right : (us : List ℤ) → us ++ [] ≡ us
nil_right [] = refl
nil_right (u ∷ us) = ap (λ xs. u ∷ xs) (nil_right us)

pub without_number : (values : List Value) (row : ℕ) (v : Value) (range : Option KeyRange) → row < length values → v ≡ get_or values row Null → units_of v ≡ None
    → range ≡ range_of (filter_map units_of (take row values)) → range ≡ range_of (filter_map units_of (take (row + 1) values))
without_number values row v range h e n r =
    r ∙ ap range_of (sym (nil_right (filter_map units_of (take row values))) ∙ sym (no_units (filter_map units_of (take row values)) (get_or values row Null) (ap units_of (sym e) ∙ n)) ∙ sym (one_more values row h))

pub no_number : (v : code.Value) → ((x : Num) → v ≡ variants.Num x → ⊥) → units_of (value_of v) ≡ None
no_number variants.Null n = refl
no_number (variants.Num x) n = absurd (n x refl)
no_number (variants.Text t) n = refl

numbers_in_column : (rows : List Row) (n : ℕ) → filter_map (λ row. units_of (value_at row n)) rows ≡ filter_map units_of (map (λ row. get_or row n Null) rows)
numbers_in_column [] n = refl
numbers_in_column (row ∷ rows) n = ap (cons_option (units_of (value_at row n))) (numbers_in_column rows n)

-- the first column of an index
pub first_range : (rows : ℕ) (cs : List StoredColumn) (numbers : List ℕ) (n : ℕ) (c : StoredColumn) → 0 < length numbers → n ≡ get_or numbers 0 0 → AreFilled rows cs → n < length cs → c ≡ get_or cs n c
    → range_of (filter_map units_of c.values) ≡ range_of (first_numbers numbers (rows_of rows cs))
first_range rows cs [] n c h e f l i = absurd (omega (arith, h))
first_range rows cs (m ∷ numbers) n c h e f l i =
    ap (λ vs. range_of (filter_map units_of vs)) (sym (column_values rows cs n c f l i)) ∙ ap range_of (sym (numbers_in_column (rows_of rows cs) n)) ∙ ap (λ k. range_of (first_numbers (k ∷ numbers) (rows_of rows cs))) e

-- the same of the first rows
pub first_taken : (rows old : ℕ) (cs : List StoredColumn) (numbers : List ℕ) (n : ℕ) (c : StoredColumn) → 0 < length numbers → n ≡ get_or numbers 0 0 → AreFilled rows cs → n < length cs → c ≡ get_or cs n c
    → range_of (first_numbers numbers (take old (rows_of rows cs))) ≡ range_of (filter_map units_of (take old c.values))
first_taken rows old cs [] n c h e f l i = absurd (omega (arith, h))
first_taken rows old cs (m ∷ numbers) n c h e f l i =
    ap (λ k. range_of (first_numbers (k ∷ numbers) (take old (rows_of rows cs)))) (sym e) ∙ ap range_of (numbers_in_column (take old (rows_of rows cs)) n)
    ∙ ap (λ vs. range_of (filter_map units_of vs)) (sym (take-map (λ row. get_or row n Null) old (rows_of rows cs)) ∙ ap (take old) (column_values rows cs n c f l i))

-- the numbers that keys begin with
pub numbers_of_keys : (numbers : List ℕ) (rows : List Row) → filter_map first_units (map (key_of numbers) rows) ≡ first_numbers numbers rows
numbers_of_keys [] [] = refl
numbers_of_keys [] (row ∷ rows) = numbers_of_keys [] rows
numbers_of_keys (n ∷ numbers) [] = refl
numbers_of_keys (n ∷ numbers) (row ∷ rows) = ap (cons_option (units_of (value_at row n))) (numbers_of_keys (n ∷ numbers) rows)

-- an index keeps the range of its keys
pub keeps_range : (numbers : List ℕ) (rows : List Row) (entries : List Entry) (range : Option KeyRange) → IsRun (map (key_of numbers) rows) entries → range ≡ range_of (first_numbers numbers rows) → (keys : List Key) → IsRun keys entries → range ≡ range_of (filter_map first_units keys)
keeps_range numbers rows entries range run e keys is =
    e ∙ ap range_of (sym (numbers_of_keys numbers rows)) ∙ ap (λ ks. range_of (filter_map first_units ks)) (sym (keys_once (map (key_of numbers) rows) keys entries run is))

pub kept_range : (numbers : List ℕ) (rows : List Row) (entries : List Entry) (range : Option KeyRange) → ((keys : List Key) → IsRun keys entries → range ≡ range_of (filter_map first_units keys)) → IsRun (map (key_of numbers) rows) entries → range ≡ range_of (first_numbers numbers rows)
kept_range numbers rows entries range kept run = kept (map (key_of numbers) rows) run ∙ ap range_of (numbers_of_keys numbers rows)

-- ---- widths

header_at : (cs : List StoredColumn) (n : ℕ) (c : StoredColumn) → n < length cs → c ≡ get_or cs n c → bytes_at (headers cs) n ≡ bytes_of c.header.type
header_at [] n c h e = absurd (omega (arith, h))
header_at (d ∷ cs) zero c h e = ap (λ (x : StoredColumn). bytes_of x.header.type) (sym e)
header_at (d ∷ cs) (suc n) c h e = header_at cs n c (omega (arith, h)) e

pub wider_row : (cs : List StoredColumn) (i : ℕ) (c : StoredColumn) → i < length cs → c ≡ get_or cs i c
    → sum_by (λ (d : Column). bytes_of d.type) (headers (take (i + 1) cs)) ≡ sum_by (λ (d : Column). bytes_of d.type) (headers (take i cs)) + bytes_of c.header.type
wider_row cs i c h e =
    ap (λ xs. sum_by (λ (d : Column). bytes_of d.type) (headers xs)) (take_more cs i c h)
    ∙ ap (sum_by (λ (d : Column). bytes_of d.type)) (map-append (λ (x : StoredColumn). x.header) (take i cs) (get_or cs i c ∷ []))
    ∙ sum_by_push (λ (d : Column). bytes_of d.type) (headers (take i cs)) (get_or cs i c).header
    ∙ ap (λ (x : StoredColumn). sum_by (λ (d : Column). bytes_of d.type) (headers (take i cs)) + bytes_of x.header.type) (sym e)

pub wider_entry : (cs : List StoredColumn) (numbers : List ℕ) (i : ℕ) (c : StoredColumn) → i < length numbers → get_or numbers i 0 < length cs → c ≡ get_or cs (get_or numbers i 0) c
    → sum_by (bytes_at (headers cs)) (take (i + 1) numbers) ≡ sum_by (bytes_at (headers cs)) (take i numbers) + bytes_of c.header.type
wider_entry cs numbers i c h l e =
    ap (sum_by (bytes_at (headers cs))) (take_more numbers i 0 h)
    ∙ sum_by_push (bytes_at (headers cs)) (take i numbers) (get_or numbers i 0)
    ∙ ap (λ w. sum_by (bytes_at (headers cs)) (take i numbers) + w) (header_at cs (get_or numbers i 0) c l e)

pub there_at : (numbers : List ℕ) (i width : ℕ) → AllByRecursion (λ k. k < width) numbers → i < length numbers → get_or numbers i 0 < width
there_at [] i width a h = absurd (omega (arith, h))
there_at (m ∷ numbers) zero width a h = a.0
there_at (m ∷ numbers) (suc i) width a h = there_at numbers i width a.1 (omega (arith, h))

-- ---- all statistics

abbrev statistics_of : ℕ → ℕ → Bool → Option KeyRange → IndexStatistics
statistics_of k p b r = record { keys = k; pages = p; clustered = b; range = r }

pub same_statistics : (k k' p p' : ℕ) (b b' : Bool) (r r' : Option KeyRange) → k ≡ k' → p ≡ p' → b ≡ b' → r ≡ r' → statistics_of k p b r ≡ statistics_of k' p' b' r'
same_statistics k k' p p' b b' r r' e f g h = rw (e, f, g, h) refl
