-- What is told of composites.
use Rattle.std.specs.Prelude.{ℕ, List, [], IsPermutation, map}
use Rattle.definitions.specs.Table.{Row}
use Rattle.definitions.specs.Arithmetic.{Meaning, Is}
use Rattle.definitions.specs.Queries.BoundBlock.{Item}
use Rattle.definitions.specs.Queries.Evaluation.{Combination}
use Rattle.definitions.specs.Queries.Combinations.{Context, passing}
use Rattle.definitions.specs.Queries.Answer.{block_answer}
use Rattle.definitions.specs.Queries.Outcomes.{Allowed, Told}
use Rattle.definitions_execution.specs.Stored.{Composite}
use Rattle.definitions_execution.specs.OfBlock.{combination_of}
use Rattle.filters.specs.Sources.{BlockSource, block_in, context_in}

-- inner blocks that mean nothing
abbrev pub no_inner : ℕ → List Combination → Meaning (List Row)
no_inner block combinations = Is []

-- what a block is evaluated in, where its inner blocks mean something
abbrev pub context_with : BlockSource → List Combination → (ℕ → List Combination → Meaning (List Row)) → Context
context_with source outer inner = record { database = source.database; outer = outer; inner = inner }

-- what may be told of it
abbrev pub MayTell : BlockSource → List Combination → (ℕ → List Combination → Meaning (List Row)) → Told → Type 0
MayTell source outer inner told =
    Allowed (block_answer (context_with source outer inner) (block_in source)) (block_in source).order told

-- composites stand for all combinations that pass the early conjuncts, each as often as there
abbrev pub ArrangePassing : BlockSource → List Combination → List Composite → Type 0
ArrangePassing source outer composites =
    IsPermutation (passing (context_in source outer) (block_in source))
    (map (combination_of source.database (block_in source)) composites)

abbrev pub names_of : BlockSource → List (List ℕ)
names_of source = map (λ (i : Item). i.name) (block_in source).items
