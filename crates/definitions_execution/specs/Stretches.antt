-- The parts of an index that matching scans open are stretches of it (own).
use Rattle.std.specs.Prelude.{ℕ, List}
use Rattle.definitions.specs.Value.{Value}
use Rattle.definitions.specs.Table.{Database}
use Rattle.definitions.specs.IndexRun.{Limit, equal_part, range_part}
use Rattle.definitions.specs.IndexLaws.{IsStretch}
use Rattle.definitions.specs.Invariant.{IsDatabase}
use Rattle.definitions.specs.Queries.BoundBlock.{Block}
use Rattle.definitions_execution.specs.OfBlock.{index_run}

-- since all keys of an index have values of its columns' types
abbrev pub EqualPartsAreStretches : Type 0
EqualPartsAreStretches = (db : Database) (block : Block) (table index : ℕ) (values : List Value) → IsDatabase db
    → IsStretch (equal_part values (index_run db block table index)) (index_run db block table index)

abbrev pub RangePartsAreStretches : Type 0
RangePartsAreStretches =
    (db : Database) (block : Block) (table index : ℕ) (values : List Value) (low high : Limit) → IsDatabase db
    → IsStretch (range_part values low high (index_run db block table index)) (index_run db block table index)
