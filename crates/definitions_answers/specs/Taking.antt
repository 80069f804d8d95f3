-- The combinations of a plain block, taken one after another: what they tell so far.
use Rattle.std.specs.Prelude.{◌≡◌, List, [], ◌∷◌, ◌++◌, Bool, true, false, Result, Ok, Err, Contains, IsPermutation}
use Rattle.std.specs.Prelude.{get_or}
use Rattle.definitions.specs.Value.{Value, Null}
use Rattle.definitions.specs.Arithmetic.{Raise}
use Rattle.definitions.specs.Queries.BoundBlock.{Item, Block}
use Rattle.definitions.specs.Queries.Conjuncts.{late_conjuncts}
use Rattle.definitions.specs.Queries.Evaluation.{Combination, Environment, column_values}
use Rattle.definitions.specs.Queries.Combinations.{Context, at, all_hold, passing, raises_of_late}
use Rattle.definitions.specs.Queries.Answer.{block_answer}
use Rattle.definitions_answers.specs.Plain.{IsPlain, row_in, row_raises_in, late_raises, column_raises, rows_of}
use Rattle.definitions_answers.specs.Told.{TellsRows}

-- an exception of a late conjunct; or else one of a result column; or else the first values of the rows
pub data Found : Type 0 where
  Late : (raise : Raise) → Found
  Column : (raise : Raise) → Found
  Values : (values : List Value) → Found

-- what late conjuncts say of a combination: whether they all hold, or what one of them raises
module _ (context : Context) (b : Block) where
  abbrev pub Says : Combination → Result Bool Raise → Type 0
  Says c (Ok all) = (raises_of_late context (late_conjuncts b) c ≡ []) × (all ≡ all_hold context (late_conjuncts b) c)
  Says c (Err raise) = Contains (raises_of_late context (late_conjuncts b) c) raise

  -- what is found in combinations that were taken
  abbrev pub Tells : List Combination → Found → Type 0
  Tells done (Late raise) = Contains (late_raises context b done) raise
  Tells done (Column raise) = (late_raises context b done ≡ []) × Contains (column_raises context b done) raise
  Tells done (Values values) =
      (late_raises context b done ≡ []) × (column_raises context b done ≡ [])
      × (values ≡ column_values (rows_of context b done))

-- what is made of a row: its first value, or an exception of any of its columns
abbrev pub RowTells : Environment → List Item → Result Value Raise → Type 0
RowTells env items (Ok v) = (row_raises_in env items ≡ []) × (v ≡ get_or (row_in env items) 0 Null)
RowTells env items (Err raise) = Contains (row_raises_in env items) raise

-- with a further combination
abbrev pub with_row : Result Value Raise → Found → Found
with_row (Ok v) (Values values) = Values (values ++ v ∷ [])
with_row (Err raise) (Values values) = Column raise
with_row row found = found

abbrev pub with_more : Result Bool Raise → Result Value Raise → Found → Found
with_more late row (Late raise) = Late raise
with_more (Err raise) row (Column other) = Late raise
with_more (Err raise) row (Values values) = Late raise
with_more (Ok true) row (Column other) = Column other
with_more (Ok true) row (Values values) = with_row row (Values values)
with_more (Ok false) row (Column other) = Column other
with_more (Ok false) row (Values values) = Values values

abbrev pub OneMoreIsTold : Type 0
OneMoreIsTold =
    (context : Context) (b : Block) (done : List Combination) (c : Combination) (found : Found)
    (late : Result Bool Raise) (row : Result Value Raise)
    → Tells context b done found → Says context b c late → RowTells (at context c) b.items row
    → Tells context b (done ++ c ∷ []) (with_more late row found)

-- at the end
abbrev pub told_at_end : Found → Result (List Value) Raise
told_at_end (Late raise) = Err raise
told_at_end (Column raise) = Err raise
told_at_end (Values values) = Ok values

abbrev pub AllAreTold : Type 0
AllAreTold =
    (context : Context) (b : Block) (all : List Combination) (found : Found) → IsPlain b
    → IsPermutation (passing context b) all → Tells context b all found
    → TellsRows (block_answer context b) (told_at_end found)
