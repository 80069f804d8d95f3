-- The values in rows of a block's tables.
use Rattle.std.proofs.Common.{◌≡◌, ◌∙◌, refl, ap, ℕ, zero, suc, ◌≤◌, List, [], ◌∷◌, length, map, get_or, Some, arith, ◌≢◌, sym, subst, ◌<◌, set, inl, inr}
use Rattle.std.specs.Prelude.{◌⊎◌}
use Rattle.std.specs.List.{AllByRecursion}
use Rattle.std.proofs.lemmas.List.{get_or-set_other, get_or-set_same}
use Rattle.std.proofs.Math.ListN.{length-set}
use Rattle.definitions.specs.Value.{Value, Null}
use Rattle.definitions.specs.Table.{Row, Table, Database}
use Rattle.definitions.specs.Plans.Order.{BlockColumn}
use Rattle.definitions.specs.Queries.BoundBlock.{Block}
use Rattle.definitions.specs.Queries.Evaluation.{cell}
use Rattle.definitions.specs.Estimates.BlockTables.{table_at}
use Rattle.definitions_execution.specs.Stored.{Composite, row_number}
use Rattle.definitions_execution.specs.OfBlock.{combination_of, rows_in}
use Rattle.definitions_execution.proofs.BlockFits.{row_of}
use Rattle.filters.proofs.Tables.{rows_are, no_rows}

past : {X : Type 0} (xs : List X) (i : ℕ) (d : X) → length xs ≤ i → get_or xs i d ≡ d
past [] i d h = refl
past (x ∷ xs) zero d h = absurd (omega (arith, h))
past (x ∷ xs) (suc i) d h = past xs i d (omega (arith, h))

-- the row of a number, or none, has no value past its columns
row_ends : (width : ℕ) (rows : List Row) (row column : ℕ) → AllByRecursion (λ r. length r ≡ width) rows → width ≤ column → get_or (get_or rows row []) column Null ≡ Null
row_ends width [] row column all h = refl
row_ends width (r ∷ rs) zero column all h = let long = all.0 in past r column Null (omega (arith, long, h))
row_ends width (r ∷ rs) (suc row) column all h = row_ends width rs row column all.1 h

mapped_row : (column : ℕ) (rows : List Row) (row : ℕ) → get_or (map (λ r. get_or r column Null) rows) row Null ≡ get_or (get_or rows row []) column Null
mapped_row column [] row = refl
mapped_row column (r ∷ rs) zero = refl
mapped_row column (r ∷ rs) (suc row) = mapped_row column rs row

abbrev pub value_there : Database → Block → (table column row : ℕ) → Value
value_there db block table column row = get_or (get_or (rows_in db block table) row []) column Null

module _ (db : Database) (block : Block) (table column row : ℕ) where
  pub none_without_table : length block.tables ≤ table → value_there db block table column row ≡ Null
  none_without_table h = ap (λ rows. get_or (get_or rows row []) column Null) (no_rows db block table h)

  module _ (t : Table) (is : table_at db block table ≡ Some t) where
    pub value_is : value_there db block table column row ≡ get_or (get_or t.rows row []) column Null
    value_is = ap (λ rows. get_or (get_or rows row []) column Null) (rows_are db block table t is)

    -- a column of the table has the row's value in its place
    pub column_is : (values : List Value) → values ≡ map (λ r. get_or r column Null) t.rows → get_or values row Null ≡ value_there db block table column row
    column_is values same = ap (λ vs. get_or vs row Null) same ∙ mapped_row column t.rows row ∙ sym value_is

    pub none_without_row : length t.rows ≤ row → value_there db block table column row ≡ Null
    none_without_row h = value_is ∙ ap (λ (r : Row). get_or r column Null) (past t.rows row [] h)

    pub none_without_column : AllByRecursion (λ r. length r ≡ length t.columns) t.rows → length t.columns ≤ column → value_there db block table column row ≡ Null
    none_without_column all h = value_is ∙ row_ends (length t.columns) t.rows row column all h

-- of the row that a composite has of its table
pub cell_there : (db : Database) (block : Block) (composite : Composite) (column : BlockColumn)
    → cell (combination_of db block composite) column ≡ value_there db block column.table column.number (row_number composite column.table)
cell_there db block composite column = ap (λ (r : Row). get_or r column.number Null) (row_of db block composite column.table)

-- where a row comes to a composite: of the row that comes, or of the one that is there
module _ (db : Database) (block : Block) (composite : Composite) (table row : ℕ) (column : BlockColumn) where
  abbrev put : Composite
  put = set composite table row

  pub coming_cell : column.table ≡ table → column.table < length composite → value_there db block column.table column.number row ≡ cell (combination_of db block put) column
  coming_cell same within =
      let here : row_number put column.table ≡ row = ap (λ t. get_or put t 0) same ∙ get_or-set_same composite table row 0 (subst (λ t. t < length composite) same within) in
      ap (value_there db block column.table column.number) (sym here) ∙ sym (cell_there db block put column)

  pub other_cell : (column.table ≢ table) ⊎ (length composite ≤ column.table) → value_there db block column.table column.number (row_number composite column.table) ≡ cell (combination_of db block put) column
  other_cell (inl other) = ap (value_there db block column.table column.number) (sym (get_or-set_other composite table column.table row 0 other)) ∙ sym (cell_there db block put column)
  other_cell (inr beyond) =
      let none : get_or composite column.table 0 ≡ 0 = past composite column.table 0 beyond in
      let none_put : get_or put column.table 0 ≡ 0 = past put column.table 0 (rw length-set beyond) in
      ap (value_there db block column.table column.number) (none ∙ sym none_put) ∙ sym (cell_there db block put column)
