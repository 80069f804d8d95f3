-- The tables of a block.
use Rattle.std.specs.Prelude.{ℕ, ◌≡◌, List, map, slice_get}
use Rattle.std.specs.Borrow.{Bor}
use Rattle.definitions.specs.Table.{Table, Database}
use Rattle.definitions.specs.Queries.BoundBlock.{Block}
use Rattle.definitions.specs.Estimates.BlockTables.{table_at}

abbrev pub tables_of : List (Bor Table) → List Table
tables_of = map (λ (t : Bor Table). t.now)

-- a list has the tables of a block, by their numbers in the order of FROM
abbrev pub AreTablesOf : Database → Block → List Table → Type 0
AreTablesOf db block tables = (number : ℕ) → slice_get tables number ≡ table_at db block number
