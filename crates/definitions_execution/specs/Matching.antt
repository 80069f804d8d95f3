-- What a matching scan opens is a part of the index's run, by what its conjuncts ask (Selinger et al. 1979, section 3:
-- an index scan with a start and a stop key).
use Rattle.std.specs.Prelude.{ℕ, ◌≡◌, ⊤, List, [], ◌∷◌, ◌++◌, map, set, Bool}
use Rattle.definitions.specs.Value.{Value}
use Rattle.definitions.specs.IndexRun.{Limit, entry_rows, equal_part, range_part}
use Rattle.definitions.specs.Plans.Path.{MatchingScan}
use Rattle.definitions.specs.Queries.BoundBlock.{Block}
use Rattle.definitions.specs.Queries.Combinations.{Context}
use Rattle.definitions.specs.Estimates.BlockTables.{index_columns}
use Rattle.definitions_execution.specs.Stored.{Composite, Stored, in_direction}
use Rattle.definitions_execution.specs.Running.{run}
use Rattle.definitions_execution.specs.OfBlock.{index_run, stored_of}
use Rattle.definitions_execution.specs.Asking.{ScanKey, EqualTo, InRange, meets}

-- conjuncts ask something of the first columns of an index, in turn, whatever row of the table is taken
abbrev pub AskInTurn : Stored → Composite → ℕ → List ℕ → List ℕ → List ScanKey → Type 0
AskInTurn stored composite table columns [] [] = ⊤
AskInTurn stored composite table (column ∷ columns) (number ∷ numbers) (asked ∷ others) =
    ((row : ℕ) → stored.holds number (set composite table row) ≡ meets asked (stored.value_in (record {
      table = table;
      number = column;
    }) row))
    × AskInTurn stored composite table columns numbers others
AskInTurn stored composite table columns _ _ = ⊥

-- by `=` alone, a matching scan opens the rows whose key begins with the values
abbrev pub MatchIsEqualPart : Type 0
MatchIsEqualPart =
    (context : Context) (block : Block) (composite : Composite) (table index : ℕ) (numbers : List ℕ) (backward : Bool)
    (values : List Value)
    → AskInTurn (stored_of context block) composite table (index_columns context.database block table index) numbers
    (map EqualTo values)
    → run (stored_of context block) (MatchingScan table index numbers backward) composite
    ≡ in_direction backward (entry_rows (equal_part values (index_run context.database block table index)))

-- and, with a range behind, those of that range
abbrev pub MatchIsRangePart : Type 0
MatchIsRangePart =
    (context : Context) (block : Block) (composite : Composite) (table index : ℕ) (numbers : List ℕ) (backward : Bool)
    (values : List Value) (low high : Limit)
    → AskInTurn (stored_of context block) composite table (index_columns context.database block table index) numbers
    (map EqualTo values ++ InRange low high ∷ [])
    → run (stored_of context block) (MatchingScan table index numbers backward) composite
    ≡ in_direction backward (entry_rows (range_part values low high (index_run context.database block table index)))
