-- A result that is kept: what was told of a block where its parameters had these values, and its total there. Without
-- them it is kept for nothing but to be told once.
use Rattle.std.specs.Prelude.{ℕ, ◌≡◌, Bool, List, Option, Some, Result}
use Rattle.definitions.specs.Value.{Value}
use Rattle.definitions.specs.Table.{Database}
use Rattle.definitions.specs.Arithmetic.{Raise}
use Rattle.definitions.specs.Plans.Plan.{Plan}
use Rattle.definitions.specs.Queries.BoundBlock.{Blocks}
use Rattle.definitions.specs.Queries.Evaluation.{Combination}
use Rattle.definitions.specs.Queries.Answer.{meanings}
use Rattle.definitions.specs.Estimates.Version.{Version}
use Rattle.definitions_execution.specs.Total.{totals}
use Rattle.definitions_answers.specs.Parameters.{outer_values, parameters}
use Rattle.definitions_answers.specs.Told.{Tells}

pub record Kept : Type 0 where
  pub key : Option (List Value)
  pub existence : Bool
  pub told : Result (List Value) Raise
  pub total : ℕ

module _ (version : Version) (db : Database) (blocks : Blocks) (plans : List Plan) (k : ℕ) where
  -- it is told of the block, and is its total, wherever its parameters have these values
  abbrev pub IsRight : Kept → Type 0
  IsRight kept =
      (outer : List Combination) → kept.key ≡ Some (outer_values outer (parameters blocks k))
      → Tells kept.existence (meanings db 0 blocks k outer) kept.told
      × (kept.total ≡ totals version db 0 blocks plans k outer)

  -- what is told once, and counted once, is right there
  abbrev pub WhatIsToldOnceIsRight : Type 0
  WhatIsToldOnceIsRight =
      (outer : List Combination) (existence : Bool) (told : Result (List Value) Raise) (total : ℕ)
      → Tells existence (meanings db 0 blocks k outer) told → total ≡ totals version db 0 blocks plans k outer
      → IsRight (record {
        key = Some (outer_values outer (parameters blocks k));
        existence = existence;
        told = told;
        total = total;
      })

abbrev pub KeptIsRight : Type 0
KeptIsRight =
    (version : Version) (db : Database) (blocks : Blocks) (plans : List Plan) (k : ℕ)
    → WhatIsToldOnceIsRight version db blocks plans k
