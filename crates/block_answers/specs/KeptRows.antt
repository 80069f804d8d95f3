-- What is kept of the rows of an inner block.
use Rattle.std.specs.Prelude.{ℕ, Bool, List, Option, Some, None, Contains}
use Rattle.definitions.specs.Arithmetic.{Meaning}
use Rattle.definitions.specs.Table.{Row}
use Rattle.definitions.specs.Queries.Evaluation.{Combination}
use Rattle.definitions_answers.specs.Plain.{late_raises}
use Rattle.sqlvalue.specs.Raises.{raise_of}
use Rattle.sqlvalue.specs.declared.raise.Raise.{Raise}
use Rattle.filters.specs.Sources.{BlockSource, block_in}
use Rattle.result_rows.specs.Stores.{kind_of}
use Rattle.block_answers.specs.BlockRows.{store_in, HaveTaken}
use Rattle.block_answers.specs.Telling.{context_with}
use Rattle.block_answers.specs.declared.block_rows.BlockRows.{BlockRows}
use Rattle.block_answers.specs.declared.kept_rows.KeptRows.{KeptRows}

abbrev pub rows_in : KeptRows → BlockRows
rows_in kept = kept.rows

-- all that is asked of them is whether there are any
abbrev pub asks_existence : KeptRows → Bool
asks_existence kept = (kind_of (store_in kept.rows)).existence

module _ (source : BlockSource) (outer : List Combination) (inner : ℕ → List Combination → Meaning (List Row)) where
  abbrev pub TellsByLate : Option Raise → List Combination → BlockRows → Type 0
  TellsByLate None cs rows = HaveTaken source outer inner cs rows
  TellsByLate (Some raise) cs rows =
      Contains (late_raises (context_with source outer inner) (block_in source) cs) (raise_of raise)

  -- an exception that a late conjunct raises on combinations, or where none does, their rows
  abbrev pub TellsKept : List Combination → KeptRows → Type 0
  TellsKept cs kept = TellsByLate kept.late cs kept.rows
