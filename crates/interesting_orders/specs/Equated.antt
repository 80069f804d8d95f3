-- What the equated columns of this crate say of a space.
use Rattle.std.specs.Prelude.{ℕ, ◌≡◌, List, Option, Some, None, length, map, get_or}
use Rattle.definitions.specs.Plans.Order.{BlockColumn, Order}
use Rattle.definitions.specs.Plans.Space.{Space}
use Rattle.definitions.specs.Plans.PlanSpace.{IsMergeConjunct}
use Rattle.query_tree.specs.Bound.{column_of}
use Rattle.interesting_orders.specs.Labels.{column_at}
use Rattle.definitions.specs.Plans.TableSet.{TableSet}
use Rattle.interesting_orders.specs.Classes.{AreClasses, AreEquations}
use Rattle.interesting_orders.specs.declared.equivalence_classes.EquivalenceClasses.{EquivalenceClasses}
use Rattle.interesting_orders.specs.declared.equivalence_classes.Equality.{Equality}
use Rattle.interesting_orders.specs.Places.{AreStated, HaveSides, IsPlace}
use Rattle.interesting_orders.specs.Merges.{leading_of}
use Rattle.interesting_orders.specs.declared.equated.EquatedColumns.{EquatedColumns}
use Rattle.interesting_orders.specs.declared.equated.MergeSides.{MergeSides}

abbrev pub columns_of : EquatedColumns → List BlockColumn
columns_of e = map column_of e.columns.items

abbrev pub column_in : EquatedColumns → ℕ → BlockColumn
column_in e place = column_at (columns_of e) place

abbrev pub places_in : EquatedColumns → ℕ
places_in e = length e.columns.items

-- what an early conjunct equates
abbrev pub equation_in : EquatedColumns → ℕ → Option Equality
equation_in e number = get_or e.equations.items number None

pub record AreEquated (space : Space) (e : EquatedColumns) : Type 0 where
  pub has : HaveSides (columns_of e) space.conjuncts
  pub stated : AreStated (columns_of e) space.conjuncts e.equations.items
  pub equations : AreEquations space (columns_of e) e.given.items

-- the classes of its columns, under a set of tables
abbrev pub AreClassesOf : Space → TableSet → EquatedColumns → EquivalenceClasses → Type 0
AreClassesOf space tables e classes = AreClasses space tables (columns_of e) classes

-- the place of the column that an order leads with, if it is there
abbrev pub IsPlaceOf : List BlockColumn → Option BlockColumn → Option ℕ → Type 0
IsPlaceOf columns None lead = lead ≡ None
IsPlaceOf columns (Some column) lead = IsPlace columns column lead

abbrev pub IsLead : EquatedColumns → Order → Option ℕ → Type 0
IsLead e order lead = IsPlaceOf (columns_of e) (leading_of order) lead

-- the two columns of a merge conjunct, the inner one being of the table
abbrev pub AreSides : Space → EquatedColumns → ℕ → ℕ → Option MergeSides → Type 0
AreSides space e number table None = (x y : BlockColumn) → IsMergeConjunct space number x y → y.table ≡ table → ⊥
AreSides space e number table (Some s) = IsMergeConjunct space number (column_in e s.outer) (column_in e s.inner)
    × ((column_in e s.inner).table ≡ table)
    × ((x y : BlockColumn) → IsMergeConjunct space number x y → y.table ≡ table → (x ≡ column_in e s.outer)
    × (y ≡ column_in e s.inner))
