-- The merges that an order opens.
use Rattle.std.specs.Prelude.{ℕ, ◌<◌, ◌≡◌, ◌≢◌, ◌⊎◌, [], ◌∷◌, Option, Some, None, if◌then◌else◌}
use Rattle.std.specs.Option.{ForSome}
use Rattle.definitions.specs.Plans.TableSet.{TableSet, Has}
use Rattle.definitions.specs.Plans.Order.{BlockColumn, Order, OrderNumber, ascending}
use Rattle.definitions.specs.Plans.Space.{Space, whole, order_at}
use Rattle.definitions.specs.Plans.ColumnClass.{SameClass, Satisfies}
use Rattle.definitions.specs.Plans.PlanSpace.{IsMergeConjunct}
use Rattle.interesting_orders.specs.Reach.{reached}

-- the column that an order leads with, if it is ascending
abbrev pub leading_of : Order → Option BlockColumn
leading_of [] = None
leading_of (key ∷ rest) = if key.descending then None else Some key.column

abbrev pub IsWithin : ℕ → Option ℕ → Type 0
IsWithin count place = ForSome place (λ p. p < count)

module _ (space : Space) where
  -- a merge brings the table that goes by a column, or by one of its class under a set of tables
  abbrev pub IsOpened : TableSet → BlockColumn → ℕ → Type 0
  IsOpened tables column table = (number : ℕ) × (x : BlockColumn) × (y : BlockColumn)
      × IsMergeConjunct space number x y × (y.table ≡ table) × SameClass space tables column x

  -- the same by what an order leads with, under all tables
  abbrev pub IsPartner : Option BlockColumn → ℕ → Type 0
  IsPartner None table = ⊥
  IsPartner (Some column) table = IsOpened (whole space) column table

  -- of two columns that are equal the one may be merged on, so that the table of the other comes
  abbrev pub OpensSide : TableSet → (lead from to : BlockColumn) → Type 0
  OpensSide tables lead from to = (from.table ≢ to.table) × SameClass space tables lead from

  abbrev pub IsWithSide : TableSet → (lead from to : BlockColumn) → (before after : Option TableSet) → Type 0
  IsWithSide tables lead from to before after =
      (OpensSide tables lead from to × (after ≡ reached before to.table))
      ⊎ ((OpensSide tables lead from to → ⊥) × (after ≡ before))

  -- an order of a set's plans goes by the column in the set of a merge conjunct, whose other column is of the table
  abbrev pub GoesBy : TableSet → OrderNumber → ℕ → ℕ → Type 0
  GoesBy tables order number table = (x : BlockColumn) × (y : BlockColumn) × IsMergeConjunct space number x y
      × Has tables x.table × (y.table ≡ table) × Satisfies space tables (order_at space order) (ascending x)

  -- the other table of a merge conjunct, by which a table comes next
  abbrev pub IsMergedWith : ℕ → ℕ → Option ℕ → Type 0
  IsMergedWith number table None = (x y : BlockColumn) → IsMergeConjunct space number x y → y.table ≡ table → ⊥
  IsMergedWith number table (Some other) = (x : BlockColumn) × (y : BlockColumn) × IsMergeConjunct space number x y
      × (y.table ≡ table) × (x.table ≡ other)
