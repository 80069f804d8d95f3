-- What EXISTS sees of a block whose result columns raise nothing: whether any combination is kept; and, without late
-- conjuncts, whether any passes.
use Rattle.std.specs.Prelude.{◌≡◌, List, [], ◌∷◌, IsPermutation}
use Rattle.std.specs.List.{AllByRecursion}
use Rattle.definitions.specs.Arithmetic.{Is}
use Rattle.definitions.specs.Truth.{Truth, True, False, has_row}
use Rattle.definitions.specs.Queries.BoundBlock.{Block}
use Rattle.definitions.specs.Queries.Conjuncts.{late_conjuncts}
use Rattle.definitions.specs.Queries.Evaluation.{Combination, on_one}
use Rattle.definitions.specs.Queries.Combinations.{Context, at, passing}
use Rattle.definitions.specs.Queries.Answer.{block_answer}
use Rattle.definitions_answers.specs.Plain.{IsPlain, row_raises_in, late_raises, kept_of}

abbrev pub is_any : {X : Type 0} → List X → Truth
is_any [] = False
is_any (x ∷ xs) = True

abbrev pub ItemsAreQuiet : Context → Block → List Combination → Type 0
ItemsAreQuiet context b all = AllByRecursion (λ c. row_raises_in (at context c) b.items ≡ []) all

-- any one that is kept decides, if nothing raises on any of them
abbrev pub ExistsIsAnyKept : Type 0
ExistsIsAnyKept =
    (context : Context) (b : Block) (all : List Combination) → IsPlain b → IsPermutation (passing context b) all
    → late_raises context b all ≡ [] → ItemsAreQuiet context b all
    → on_one has_row (block_answer context b) ≡ Is (is_any (kept_of context b all))

abbrev pub ExistsIsAnyPassing : Type 0
ExistsIsAnyPassing =
    (context : Context) (b : Block) (all : List Combination) → IsPlain b → IsPermutation (passing context b) all
    → late_conjuncts b ≡ [] → ItemsAreQuiet context b all
    → on_one has_row (block_answer context b) ≡ Is (is_any all)
