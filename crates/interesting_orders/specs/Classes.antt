-- What the classes of this crate say, under a set of tables.
use Rattle.std.specs.Prelude.{ℕ, ◌<◌, ◌≡◌, ◌⊎◌, ◌↔◌, List, length, get_or}
use Rattle.definitions.specs.Plans.TableSet.{TableSet}
use Rattle.definitions.specs.Plans.Order as o
use Rattle.definitions.specs.Plans.Space.{Space}
use Rattle.definitions.specs.Plans.ColumnClass.{Equates, SameClass}
use Rattle.interesting_orders.specs.Labels.{column_at, label_at, Holds}
use Rattle.interesting_orders.specs.declared.equivalence_classes.EquivalenceClasses.{EquivalenceClasses}
use Rattle.interesting_orders.specs.declared.equivalence_classes.Equality.{Equality}

-- no column stands in the list twice
abbrev pub AreDistinct : List o.BlockColumn → Type 0
AreDistinct columns = (i j : ℕ) → i < length columns → j < length columns → column_at columns i ≡ column_at columns j
    → i ≡ j

abbrev pub no_equation : Equality
no_equation = record { left = 0; right = 0 }

-- an equation says that two columns are equal
abbrev pub Says : List o.BlockColumn → Equality → (a b : o.BlockColumn) → Type 0
Says columns e a b = ((column_at columns e.left ≡ a) × (column_at columns e.right ≡ b))
    ⊎ ((column_at columns e.left ≡ b) × (column_at columns e.right ≡ a))

-- the equations are those of the early conjuncts
pub record AreEquations (space : Space) (columns : List o.BlockColumn) (equations : List Equality) : Type 0 where
  pub hold : (place : ℕ) → place < length equations → Holds space columns (get_or equations place no_equation)
  pub all : (number : ℕ) (a b : o.BlockColumn) → Equates space number a b
      → (place : ℕ) × (place < length equations) × Says columns (get_or equations place no_equation) a b

-- two columns have one label exactly where they are of one class
abbrev pub AreClasses : Space → TableSet → List o.BlockColumn → EquivalenceClasses → Type 0
AreClasses space tables columns c =
    (i j : ℕ) → i < length columns → j < length columns
    → (label_at c.labels i ≡ label_at c.labels j) ↔ SameClass space tables (column_at columns i) (column_at columns j)
