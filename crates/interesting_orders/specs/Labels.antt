-- Labels of columns by their places: two columns of one label are of one class.
use Rattle.std.specs.Prelude.{ℕ, ◌<◌, ◌≡◌, nat_eq, if◌then◌else◌, List, length, get_or}
use Rattle.definitions.specs.Plans.TableSet.{TableSet, Has}
use Rattle.definitions.specs.Plans.Order as o
use Rattle.definitions.specs.Plans.Space.{Space}
use Rattle.definitions.specs.Plans.ColumnClass.{Equates, SameClass}
use Rattle.interesting_orders.specs.declared.equivalence_classes.Equality.{Equality}

-- a label once another stands in its place
abbrev pub merged : (from to label : ℕ) → ℕ
merged from to label = if nat_eq label from then to else label

abbrev pub label_at : List ℕ → ℕ → ℕ
label_at labels place = get_or labels place 0

abbrev pub no_column : o.BlockColumn
no_column = record { table = 0; number = 0 }

abbrev pub column_at : List o.BlockColumn → ℕ → o.BlockColumn
column_at columns place = get_or columns place no_column

-- an equation is between two of the columns
abbrev pub IsBetween : ℕ → Equality → Type 0
IsBetween count e = (e.left < count) × (e.right < count)

-- columns of one label are of one class under a set of tables
abbrev pub AreSound : Space → TableSet → List o.BlockColumn → List ℕ → Type 0
AreSound space tables columns labels =
    (i j : ℕ) → i < length columns → j < length columns → label_at labels i ≡ label_at labels j
    → SameClass space tables (column_at columns i) (column_at columns j)

-- an equation whose tables are all in a set joins its columns
abbrev pub Joins : TableSet → List o.BlockColumn → List ℕ → Equality → Type 0
Joins tables columns labels e =
    Has tables (column_at columns e.left).table → Has tables (column_at columns e.right).table
    → label_at labels e.left ≡ label_at labels e.right

-- an early conjunct of the block says it
abbrev pub Holds : Space → List o.BlockColumn → Equality → Type 0
Holds space columns e = (number : ℕ) × Equates space number (column_at columns e.left) (column_at columns e.right)
