-- Columns as lists of values, and these as rows.
use Rattle.std.specs.Prelude.{ℕ, zero, suc, List, [], ◌∷◌, ◌++◌, length, map, take, slice_index_or, ◌≡◌, ⊤}
use Rattle.std.specs.List.{AllByRecursion}
use Rattle.definitions.specs.Value.{Value, Null}
use Rattle.definitions.specs.Statement.{Name, Constraint}
use Rattle.definitions.specs.Table.{Column, Row}
use Rattle.columns.specs.Cells.{CellList}

-- a column with its values
pub record StoredColumn : Type 0 where
  pub header : Column
  pub values : List Value

-- cells under a name, of which something is asked
abbrev pub named : Name → Constraint → CellList → StoredColumn
named name constraint l =
    record { header = record { name = name; type = l.type; constraint = constraint }; values = l.values }

-- a column with one more value, or the first values of it alone
abbrev pub with_value : StoredColumn → Value → StoredColumn
with_value c v = record c { values = c.values ++ v ∷ [] }

abbrev pub cut_to : ℕ → StoredColumn → StoredColumn
cut_to rows c = record c { values = take rows c.values }

abbrev pub headers : List StoredColumn → List Column
headers = map (λ (c : StoredColumn). c.header)

abbrev pub value_at : ℕ → StoredColumn → Value
value_at k c = slice_index_or c.values k Null

-- the k-th row, and the first rows
abbrev pub row_at : ℕ → List StoredColumn → Row
row_at k = map (value_at k)

abbrev pub rows_of : ℕ → List StoredColumn → List Row
rows_of zero cs = []
rows_of (suc n) cs = rows_of n cs ++ row_at n cs ∷ []

-- every column has n values
abbrev pub AreFilled : ℕ → List StoredColumn → Type 0
AreFilled n = AllByRecursion (λ (c : StoredColumn). length c.values ≡ n)

-- columns with one more row, and with further rows in turn
abbrev pub with_row : List StoredColumn → Row → List StoredColumn
with_row (c ∷ cs) (v ∷ vs) = with_value c v ∷ with_row cs vs
with_row _ _ = []

abbrev pub with_rows : List StoredColumn → List Row → List StoredColumn
with_rows cs [] = cs
with_rows cs (row ∷ rows) = with_rows (with_row cs row) rows

-- each column of the second list is one of the first, with further values at its end
abbrev pub Extends : List StoredColumn → List StoredColumn → Type 0
Extends [] [] = ⊤
Extends (c ∷ cs) (d ∷ ds) = ((more : List Value) × (d ≡ record c { values = c.values ++ more })) × Extends cs ds
Extends _ _ = ⊥
