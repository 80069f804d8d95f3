-- Columns that are sorted for the blocks of a query.
use Rattle.std.specs.Prelude.{ℕ, ◌≡◌, List, Option, Some, slice_get}
use Rattle.automatic_indexes.specs.SortedColumns.{IsSortedColumn}
use Rattle.automatic_indexes.specs.declared.sorted_column.SortedColumn.{SortedColumn}
use Rattle.executor.specs.ReadyBlocks.{OfBlock}
use Rattle.executor.specs.declared.ready_block.ReadyBlock.{ReadyBlock}

-- each is of a table of its block
abbrev pub AreSorted : List ReadyBlock → List (Option SortedColumn) → Type 0
AreSorted query sorted = (number : ℕ) (own : SortedColumn) → slice_get sorted number ≡ Some (Some own)
    → OfBlock query number (λ r. IsSortedColumn r.source own)
