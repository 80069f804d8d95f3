-- Rows have values of their columns' types: so do keys, and combinations.
use Prim.Native.Nat.{zero}
use Rattle.std.proofs.Common.{suc, sym, ap, ◌∙◌, subst, ◌≡◌, ◌⊎◌, inl, inr, ℕ, List, [], ◌∷◌, get_or, slice_get, map, Some, is_some, refl, true≢false, arith}
use Rattle.std.specs.Prelude.{option_map, unwrap_or, Contains}
use Rattle.std.specs.List.{AllByRecursion}
use Rattle.std.proofs.lemmas.List.Elements.{All-from_recursion, All-contains}
use Rattle.definitions.specs.Value.{Null, SqlType, Integer, IsType, HasType}
use Rattle.definitions.specs.Table as table
use Rattle.definitions.specs.Table.{Row, Table, Database, IsRow}
use Rattle.definitions.specs.Key.{value_at, key_of}
use Rattle.definitions.specs.Invariant.{IsTable, IsDatabase}
use Rattle.definitions.specs.IndexLaws.{IsKeyOf, EqualPartIsStretch, RangePartIsStretch}
use Rattle.definitions.specs.Queries.BoundBlock.{Block}
use Rattle.definitions.specs.Queries.Evaluation.{Combination, cell}
use Rattle.definitions.specs.Queries.Combinations.{rows_of, combinations}
use Rattle.definitions.specs.Estimates.BlockTables.{index_columns}
use Rattle.definitions_execution.specs.IndexRows.{keys_in}
use Rattle.definitions_execution.specs.OfBlock.{rows_in, combination_of, index_run}
use Rattle.definitions_execution.specs.Stretches.{EqualPartsAreStretches, RangePartsAreStretches}
use Rattle.definitions_execution.specs.TypedCombinations.{IsTypedCombination, CombinationsAreTyped, CompositesAreTyped}
use Rattle.definitions.proofs.PlanTheory.Elements.{first_is, later}
use Rattle.definitions.proofs.EstimateTheory.Members.{was_mapped, was_flattened}
use Rattle.definitions_execution.proofs.KeyOrder.{run_computed}
use Rattle.definitions_execution.proofs.BlockFits.{lists_of_rows, row_of}

-- ---- the rows of a table

pub rows_typed : (db : Database) (n : ℕ) (t : Table) → AllByRecursion IsTable db → slice_get db n ≡ Some t → IsTable t × (rows_of db n ≡ t.rows)
rows_typed [] n t h e = absurd (true≢false (sym (ap is_some e)))
rows_typed (x ∷ xs) zero t h e = let same : x ≡ t = ap (λ o. unwrap_or o x) e in (subst IsTable same h.0, ap (λ (y : Table). y.rows) same)
rows_typed (x ∷ xs) (suc n) t h e = rows_typed xs n t h.1 e

-- rows that are all of some columns
abbrev AreRows : List Row → Type 0
AreRows rows = (columns : List table.Column) × AllByRecursion (IsRow columns) rows

table_rows : (db : Database) (n : ℕ) → AllByRecursion IsTable db → AreRows (rows_of db n)
table_rows [] n h = ([], tt)
table_rows (t ∷ ts) zero h = (t.columns, h.0.typed)
table_rows (t ∷ ts) (suc n) h = table_rows ts n h.1

list_rows : (db : Database) (ns : List ℕ) (u : ℕ) → AllByRecursion IsTable db → AreRows (get_or (map (rows_of db) ns) u [])
list_rows db [] u h = ([], tt)
list_rows db (n ∷ ns) zero h = table_rows db n h
list_rows db (n ∷ ns) (suc u) h = list_rows db ns u h

-- ---- keys

abbrev type_for : List table.Column → ℕ → SqlType
type_for columns n = unwrap_or (option_map (λ (c : table.Column). c.type) (slice_get columns n)) Integer

value_typed : (columns : List table.Column) (row : Row) (n : ℕ) → IsRow columns row → HasType (type_for columns n) (value_at row n)
value_typed [] [] n h = tt
value_typed [] (v ∷ vs) n h = absurd h
value_typed (c ∷ cs) [] n h = absurd h
value_typed (c ∷ cs) (v ∷ vs) zero h = h.0
value_typed (c ∷ cs) (v ∷ vs) (suc n) h = value_typed cs vs n h.1

key_typed : (columns : List table.Column) (row : Row) (numbers : List ℕ) → IsRow columns row → IsKeyOf (map (type_for columns) numbers) (key_of numbers row)
key_typed columns row [] h = tt
key_typed columns row (n ∷ ns) h = (value_typed columns row n h, key_typed columns row ns h)

keys_typed : (columns : List table.Column) (rows : List Row) (numbers : List ℕ) → AllByRecursion (IsRow columns) rows → AllByRecursion (IsKeyOf (map (type_for columns) numbers)) (keys_in numbers rows)
keys_typed columns [] numbers h = tt
keys_typed columns (row ∷ rows) numbers h = (key_typed columns row numbers h.0, keys_typed columns rows numbers h.1)

pub equal_stretches : EqualPartIsStretch → EqualPartsAreStretches
equal_stretches equal_stretch db block u i values valid =
    let (columns, typed) = list_rows db block.tables u valid.each in
    let numbers : List ℕ = index_columns db block u i in
    let rows : List Row = rows_in db block u in
    equal_stretch (map (type_for columns) numbers) (keys_in numbers rows) (index_run db block u i) values (keys_typed columns rows numbers typed) (run_computed numbers rows)

pub range_stretches : RangePartIsStretch → RangePartsAreStretches
range_stretches range_stretch db block u i values low high valid =
    let (columns, typed) = list_rows db block.tables u valid.each in
    let numbers : List ℕ = index_columns db block u i in
    let rows : List Row = rows_in db block u in
    range_stretch (map (type_for columns) numbers) (keys_in numbers rows) (index_run db block u i) values low high (keys_typed columns rows numbers typed) (run_computed numbers rows)

-- ---- combinations

pub row_value : (columns : List table.Column) (row : Row) (n : ℕ) (c : table.Column) → IsRow columns row → slice_get columns n ≡ Some c → HasType c.type (get_or row n Null)
row_value [] row n c h e = absurd (true≢false (sym (ap is_some e)))
row_value (d ∷ ds) [] n c h e = absurd h
row_value (d ∷ ds) (v ∷ vs) zero c h e = let same : d ≡ c = ap (λ o. unwrap_or o d) e in subst (λ (x : table.Column). HasType x.type v) same h.0
row_value (d ∷ ds) (v ∷ vs) (suc n) c h e = row_value ds vs n c h.1 e

pub column_type : (columns : List table.Column) (n : ℕ) (c : table.Column) → AllByRecursion (λ (x : table.Column). IsType x.type) columns → slice_get columns n ≡ Some c → IsType c.type
column_type [] n c h e = absurd (true≢false (sym (ap is_some e)))
column_type (d ∷ ds) zero c h e = let same : d ≡ c = ap (λ o. unwrap_or o d) e in subst (λ (x : table.Column). IsType x.type) same h.0
column_type (d ∷ ds) (suc n) c h e = column_type ds n c h.1 e

-- a row of a list, or none
abbrev IsOneOf : List Row → Row → Type 0
IsOneOf rows row = Contains rows row ⊎ (row ≡ [])

one_value : (t : Table) (row : Row) (n : ℕ) (c : table.Column) → IsTable t → slice_get t.columns n ≡ Some c → IsOneOf t.rows row → HasType c.type (get_or row n Null)
one_value t row n c h e (inl there) = row_value t.columns row n c (All-contains (IsRow t.columns) t.rows row (All-from_recursion (IsRow t.columns) t.rows h.typed) there) e
one_value t row n c h e (inr none) = subst (λ r. HasType c.type (get_or r n Null)) (sym none) tt

list_at : (db : Database) (ns : List ℕ) (u n : ℕ) → slice_get ns u ≡ Some n → get_or (map (rows_of db) ns) u [] ≡ rows_of db n
list_at db [] u n e = absurd (true≢false (sym (ap is_some e)))
list_at db (m ∷ ms) zero n e = ap (λ o. rows_of db (unwrap_or o m)) e
list_at db (m ∷ ms) (suc u) n e = list_at db ms u n e

module _ (db : Database) (block : Block) (valid : IsDatabase db) where
  have_types : (combination : Combination) → ((u : ℕ) → IsOneOf (rows_in db block u) (get_or combination u [])) → IsTypedCombination db block combination
  have_types combination each column type (n, t, c, at, there, own, is) =
      let (table_is, rows_are) = rows_typed db n t valid.each there in
      let one : IsOneOf t.rows (get_or combination column.table []) = subst (λ rows. IsOneOf rows (get_or combination column.table [])) (list_at db block.tables column.table n at ∙ rows_are) (each column.table) in
      subst (λ x. HasType x (cell combination column)) is (one_value t (get_or combination column.table []) column.number c table_is own one)

get_one : (rows : List Row) (r : ℕ) → IsOneOf rows (get_or rows r [])
get_one [] r = inr refl
get_one (row ∷ rows) zero = inl (first_is row rows row refl)
get_one (row ∷ rows) (suc r) = of_rest (get_one rows r)
  where
    of_rest : IsOneOf rows (get_or rows r []) → IsOneOf (row ∷ rows) (get_or rows r [])
    of_rest (inl there) = inl (later row rows (get_or rows r []) there)
    of_rest (inr none) = inr none

pub composites_typed : CompositesAreTyped
composites_typed db block composite valid =
    have_types db block valid (combination_of db block composite)
    (λ u. subst (IsOneOf (rows_in db block u)) (sym (row_of db block composite u)) (get_one (rows_in db block u) (get_or composite u 0)))

of_lists : (lists : List (List Row)) (c : Combination) (u : ℕ) → Contains (combinations lists) c → IsOneOf (get_or lists u []) (get_or c u [])
of_lists [] c u there = inr (of_first c there)
  where
    of_first : (c : Combination) → Contains ([] ∷ []) c → get_or c u [] ≡ []
    of_first c (zero, lt, e) = subst (λ d. get_or d u [] ≡ []) e refl
    of_first c (suc k, lt, e) = absurd (omega arith)
of_lists (rows ∷ others) c u there =
    let (row, own, is) = was_flattened (λ x. map (λ c. x ∷ c) (combinations others)) rows c there in
    let (rest, inside, same) = was_mapped (λ c. row ∷ c) (combinations others) c is in
    subst (λ d. IsOneOf (get_or (rows ∷ others) u []) (get_or d u [])) same (at row rest u own (λ k. of_lists others rest k inside))
  where
    at : (row : Row) (rest : Combination) (u : ℕ) → Contains rows row → ((k : ℕ) → IsOneOf (get_or others k []) (get_or rest k [])) → IsOneOf (get_or (rows ∷ others) u []) (get_or (row ∷ rest) u [])
    at row rest zero own later_ones = inl own
    at row rest (suc u) own later_ones = later_ones u

pub combinations_typed : CombinationsAreTyped
combinations_typed context block combination valid there =
    have_types context.database block valid combination (λ u. of_lists (lists_of_rows context.database block) combination u there)
