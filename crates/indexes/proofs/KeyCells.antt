-- The keys in the columns of an index are those of the table's rows.
use Rattle.std.proofs.Common.{◌≡◌, ◌∙◌, refl, sym, subst, ap, ap₂, ℕ, zero, suc, ◌+◌, ◌<◌, ◌≤◌, List, [], ◌∷◌, ◌++◌, length, map, take, get_or, Bool, arith}
use Rattle.std.specs.Borrow.{Bor}
use Rattle.std.specs.List.{AllByRecursion, range_with_len}
use Rattle.std.proofs.lemmas.List.{length-map, map-append, take-map, take_more}
use Rattle.std.proofs.lemmas.List.FromFn.{map-range_with_len_more}
use Rattle.definitions.specs.Limits.{most_rows}
use Rattle.definitions.specs.Table as table
use Rattle.definitions.specs.Table.{IndexStatistics, Row}
use Rattle.definitions.specs.Statistics.{index_statistics}
use Rattle.definitions.specs.Key.{AreUnique, key_of, value_at}
use Rattle.definitions.specs.IndexRun.{Entry, IsRun}
use Rattle.columns.specs.Cells.{CellList}
use Rattle.columns.specs.Columns.{cells_of}
use Rattle.columns.specs.declared.column.Column.{Column}
use Rattle.columns.specs.Starts.{value_in}
use Rattle.indexes.specs.Keys.{AreOfHeight, columns_of, height, key_in, keys_in, types_of}
use Rattle.loading.specs.Stored.{StoredColumn, AreFilled, headers, row_at, rows_of}
use Rattle.indexes.specs.KeyColumns.{cells_at, key_cells}
use Rattle.indexes.specs.declared.unique.UniqueFault.{UniqueFault}
use Rattle.indexes.specs.declared.unique.UniqueFault.TheVariants as u
use Rattle.indexes.specs.declared.index_kind.IndexKind.{IndexKind}
use Rattle.indexes.specs.Orders.{IsOrderOf, RefusesOrder, is_unique, run_of}
use Rattle.indexes.specs.Indexes.{StoredIndex, AreIndexColumns, IsIndexOn, RefusesIndexOn}

-- rows as they are numbered
rows_numbered : (n : ℕ) (cs : List StoredColumn) → rows_of n cs ≡ map (λ k. row_at k cs) (range_with_len 0 n)
rows_numbered zero cs = refl
rows_numbered (suc n) cs =
    let next : suc n ≡ n + 1 = omega arith in
    ap (λ rows. rows ++ row_at n cs ∷ []) (rows_numbered n cs) ∙ sym (map-range_with_len_more (λ k. row_at k cs) 0 n n (omega arith)) ∙ ap (λ m. map (λ k. row_at k cs) (range_with_len 0 m)) (sym next)

value_alike : (cs : List StoredColumn) (n row : ℕ) → value_at (row_at row cs) n ≡ value_in (cells_at cs n) row
value_alike [] n row = refl
value_alike (c ∷ cs) zero row = refl
value_alike (c ∷ cs) (suc n) row = value_alike cs n row

key_alike : (cs : List StoredColumn) (numbers : List ℕ) (row : ℕ) → key_of numbers (row_at row cs) ≡ key_in (key_cells cs numbers) row
key_alike cs [] row = refl
key_alike cs (n ∷ numbers) row = ap₂ (λ v key. v ∷ key) (value_alike cs n row) (key_alike cs numbers row)

keys_alike : (cs : List StoredColumn) (numbers rows : List ℕ) → map (key_of numbers) (map (λ k. row_at k cs) rows) ≡ map (key_in (key_cells cs numbers)) rows
keys_alike cs numbers [] = refl
keys_alike cs numbers (row ∷ rows) = ap₂ (λ key keys. key ∷ keys) (key_alike cs numbers row) (keys_alike cs numbers rows)

cells_filled : (n : ℕ) (cs : List StoredColumn) (j : ℕ) → AreFilled n cs → j < length cs → length (cells_at cs j).values ≡ n
cells_filled n [] j f h = absurd (omega (arith, h))
cells_filled n (c ∷ cs) zero f h = f.0
cells_filled n (c ∷ cs) (suc j) f h = cells_filled n cs j f.1 (omega (arith, h))

pub cells_high : (n : ℕ) (cs : List StoredColumn) (numbers : List ℕ) → AreFilled n cs → AllByRecursion (λ j. j < length cs) numbers → AreOfHeight n (key_cells cs numbers)
cells_high n cs [] f h = tt
cells_high n cs (j ∷ numbers) f h = (cells_filled n cs j f h.0, cells_high n cs numbers f h.1)

pub height_is : (n : ℕ) (cs : List StoredColumn) (numbers : List ℕ) → AreFilled n cs → AreIndexColumns (length cs) numbers → height (key_cells cs numbers) ≡ n
height_is n cs [] f h = absurd (omega (arith, h.some))
height_is n cs (j ∷ numbers) f h = cells_filled n cs j f h.there.0

pub keys_are : (n : ℕ) (cs : List StoredColumn) (numbers : List ℕ) → AreFilled n cs → AreIndexColumns (length cs) numbers → keys_in (key_cells cs numbers) ≡ map (key_of numbers) (rows_of n cs)
keys_are n cs numbers f h =
    ap (λ m. map (key_in (key_cells cs numbers)) (range_with_len 0 m)) (height_is n cs numbers f h)
    ∙ sym (keys_alike cs numbers (range_with_len 0 n)) ∙ ap (map (key_of numbers)) (sym (rows_numbered n cs))

-- ---- what building an order asks

pub high_enough : (n : ℕ) (cs : List StoredColumn) (numbers : List ℕ) (keys : List CellList) → keys ≡ key_cells cs numbers → AreFilled n cs → AreIndexColumns (length cs) numbers → AreOfHeight (height keys) keys
high_enough n cs numbers keys e f h = rw e (rw (height_is n cs numbers f h) (cells_high n cs numbers f h.there))

pub not_high : (n : ℕ) (cs : List StoredColumn) (numbers : List ℕ) (keys : List CellList) → keys ≡ key_cells cs numbers → AreFilled n cs → AreIndexColumns (length cs) numbers → n ≤ most_rows → height keys < 4294967296
not_high n cs numbers keys e f h few = rw e (omega (arith, few, height_is n cs numbers f h))

pub begins : (n : ℕ) (cs : List StoredColumn) (numbers : List ℕ) (keys : List CellList) (entries : List Entry) → keys ≡ key_cells cs numbers → AreFilled n cs → AreIndexColumns (length cs) numbers
    → IsRun (map (key_of numbers) (take (length entries) (rows_of n cs))) entries → IsRun (take (length entries) (keys_in keys)) entries
begins n cs numbers keys entries e f h run =
    let same : take (length entries) (keys_in keys) ≡ map (key_of numbers) (take (length entries) (rows_of n cs)) =
    ap (λ ks. take (length entries) (keys_in ks)) e ∙ ap (take (length entries)) (keys_are n cs numbers f h) ∙ take-map (key_of numbers) (length entries) (rows_of n cs) in
    rw same run

pub types_many : (cs : List StoredColumn) (numbers : List ℕ) → length (types_of (key_cells cs numbers)) ≡ length numbers
types_many cs numbers = length-map (key_cells cs numbers) (λ (c : CellList). c.type) ∙ length-map numbers (cells_at cs)

pub cells_here : (cs : List StoredColumn) (n : ℕ) (c : StoredColumn) → n < length cs → c ≡ get_or cs n c → cells_at cs n ≡ record { type = c.header.type; values = c.values }
cells_here [] n c h e = absurd (omega (arith, h))
cells_here (d ∷ cs) zero c h e = ap (λ (x : StoredColumn). record { type = x.header.type; values = x.values }) (sym e)
cells_here (d ∷ cs) (suc n) c h e = cells_here cs n c (omega (arith, h)) e

-- one column more
pub keys_push : (cs : List StoredColumn) (numbers : List ℕ) (i : ℕ) (c : StoredColumn) (keys more : List (Bor Column)) (new : Bor Column) → i < length numbers → columns_of keys ≡ key_cells cs (take i numbers)
    → get_or numbers i 0 < length cs → c ≡ get_or cs (get_or numbers i 0) c → cells_of new.now ≡ record { type = c.header.type; values = c.values } → more ≡ keys ++ new ∷ [] → columns_of more ≡ key_cells cs (take (i + 1) numbers)
keys_push cs numbers i c keys more new h k l e is add =
    ap columns_of add ∙ map-append (λ (column : Bor Column). cells_of column.now) keys (new ∷ [])
    ∙ ap₂ (λ xs x. xs ++ x ∷ []) k (is ∙ sym (cells_here cs (get_or numbers i 0) c l e))
    ∙ sym (map-append (cells_at cs) (take i numbers) (get_or numbers i 0 ∷ [])) ∙ ap (key_cells cs) (sym (take_more numbers i 0 h))

-- the order that is had, and why there is none
pub no_order : (n : ℕ) (cs : List StoredColumn) (numbers : List ℕ) (keys : List CellList) (unique : Bool) (fault : UniqueFault) → keys ≡ key_cells cs numbers → AreFilled n cs → AreIndexColumns (length cs) numbers
    → RefusesOrder keys unique fault → RefusesIndexOn (rows_of n cs) numbers unique fault
no_order n cs numbers keys unique (u.Repeated repeated) e f h r = rw (sym (keys_are n cs numbers f h), sym (ap keys_in e)) r
no_order n cs numbers keys unique u.Memory e f h r = tt

pub run_had : (n : ℕ) (cs : List StoredColumn) (numbers : List ℕ) (keys : List CellList) (unique : Bool) (order : IndexKind) → keys ≡ key_cells cs numbers → AreFilled n cs → AreIndexColumns (length cs) numbers
    → IsOrderOf keys unique order → IsRun (map (key_of numbers) (rows_of n cs)) (run_of order).entries
run_had n cs numbers keys unique order e f h o = rw (sym (keys_are n cs numbers f h), sym (ap keys_in e)) o.run

pub index_had : (n : ℕ) (cs : List StoredColumn) (numbers kept : List ℕ) (keys : List CellList) (unique : Bool) (order : IndexKind) (statistics : IndexStatistics) → keys ≡ key_cells cs numbers → AreFilled n cs → AreIndexColumns (length cs) numbers → IsOrderOf keys unique order
    → kept ≡ numbers → statistics ≡ index_statistics (headers cs) (rows_of n cs) numbers
    → IsIndexOn (headers cs) (rows_of n cs) numbers unique (record { index = record { columns = kept; unique = is_unique order; statistics = statistics }; entries = (run_of order).entries })
index_had n cs numbers kept keys unique order statistics e f h o k g = record {
  is = rw (k, o.kind, g) refl;
  run = run_had n cs numbers keys unique order e f h o;
  once = λ u. subst AreUnique (ap keys_in e ∙ keys_are n cs numbers f h) (o.once u);
}

pub on_same : (columns : List table.Column) (rows : List Row) (i j made : StoredIndex) → i ≡ j → IsIndexOn columns rows i.index.columns i.index.unique made → IsIndexOn columns rows j.index.columns j.index.unique made
on_same columns rows i j made e h = rw (sym e) h

-- an order's keys are as wide as its list of columns
pub as_wide : (cs : List StoredColumn) (numbers kept : List ℕ) (keys : List CellList) (unique : Bool) (order : IndexKind) → keys ≡ key_cells cs numbers → IsOrderOf keys unique order → kept ≡ numbers → length (run_of order).types ≡ length kept
as_wide cs numbers kept keys unique order e o k =
    ap length o.types ∙ length-map keys (λ (column : CellList). column.type) ∙ ap length e ∙ length-map numbers (cells_at cs) ∙ ap length (sym k)
