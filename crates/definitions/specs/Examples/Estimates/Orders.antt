-- Worked examples: the order that a block asks for, and the numbers of the orders that indexes give.
use Rattle.std.specs.Prelude.{◌≡◌, Bool, true, false, [], ◌∷◌, None, codes}
use Rattle.definitions.specs.ValueType.{NumberType}
use Rattle.definitions.specs.Plans.Order.{SortKey}
use Rattle.definitions.specs.Queries.BoundBlock as bound
use Rattle.definitions.specs.Queries.BoundBlock.{Block}
use Rattle.definitions.specs.Estimates.Version.{One, Two}
use Rattle.definitions.specs.Estimates.Orders.{required_of, orders_of}
use Rattle.definitions.specs.Examples.Estimates.Setups as s
use Rattle.definitions.specs.Examples.Estimates.Paths.{a, b}
use Rattle.definitions.specs.Examples.Estimates.TwoColumns.{by_two}

-- ---- T (A, B, C) with an index on (A, B)

-- SELECT A, A + B FROM T ORDER BY A DESC
abbrev pub ordered : Block
ordered =
    s.select_from (s.item (codes "A") a ∷ s.item (codes "COL2") (s.plus a b) ∷ []) (0 ∷ []) None (record {
      item = 0;
      descending = true;
    } ∷ [])

-- the same ORDER BY A DESC, 2
abbrev pub ordered_by_sum : Block
ordered_by_sum =
    record ordered { order = record { item = 0; descending = true } ∷ record { item = 1; descending = false } ∷ [] }

-- SELECT B, A FROM T GROUP BY B, A ORDER BY A DESC
abbrev pub grouped : Block
grouped =
    record (s.select_from (s.item (codes "B") b ∷ s.item (codes "A") a ∷ []) (0 ∷ []) None (record {
      item = 1;
      descending = true;
    } ∷ [])) {
      groups = s.column_at 0 1 ∷ s.column_at 0 0 ∷ [];
    }

-- SELECT COUNT(*) AS N FROM T ORDER BY N
abbrev pub counted : Block
counted =
    record (s.select_from (s.item (codes "N") (bound.AggregateValue 0 (NumberType 0)) ∷ []) (0 ∷
    []) None (record { item = 0; descending = false } ∷ [])) {
      functions = bound.CountRows ∷ [];
    }

abbrev pub by_a : Bool → SortKey
by_a descending = record { column = s.column_at 0 0; descending = descending }

abbrev pub by_b : Bool → SortKey
by_b descending = record { column = s.column_at 0 1; descending = descending }

-- ORDER BY asks for an order where all its keys are columns; a block that is grouped asks for the columns of GROUP BY,
-- or for none
abbrev pub RequiredOrders : Type 0
RequiredOrders =
    (required_of ordered ≡ by_a true ∷ []) × (required_of ordered_by_sum ≡ [])
    × (required_of grouped ≡ by_b false ∷ by_a false ∷ [])
    × (required_of counted ≡ [])

-- the second version numbers both directions of the index, the first doesn't know it
abbrev pub IndexOrders : Type 0
IndexOrders = (orders_of One by_two ordered ≡ [] ∷ (by_a true ∷ []) ∷ [])
    × (orders_of Two by_two ordered ≡ [] ∷ (by_a true ∷ []) ∷ (by_a false ∷ by_b false ∷ []) ∷
    (by_a true ∷ by_b true ∷ []) ∷ [])
