-- What late conjuncts say of a combination, by what is told of their subqueries there.
use Rattle.std.specs.Prelude.{ℕ, ◌≡◌, List, [], ◌∷◌, Bool, Result, Ok, Err, Contains, flat_map}
use Rattle.std.specs.List.{list_all, AllByRecursion}
use Rattle.definitions.specs.Value.{Value}
use Rattle.definitions.specs.Table.{Database}
use Rattle.definitions.specs.Arithmetic.{Raise}
use Rattle.definitions.specs.Queries.BoundBlock.{Block, Blocks}
use Rattle.definitions.specs.Queries.Conjuncts.{late_conjuncts}
use Rattle.definitions.specs.Queries.Evaluation.{Combination, Environment, truth}
use Rattle.definitions.specs.Queries.Combinations.{at, is_surely_true, raises_of}
use Rattle.definitions.specs.Queries.Answer.{meanings}
use Rattle.definitions_execution.specs.Total.{subqueries}
use Rattle.definitions_answers.specs.Steps.{context_among, context_alone}
use Rattle.definitions_answers.specs.Taking.{Says}
use Rattle.definitions_answers.specs.Seen.{seen_subqueries}
use Rattle.definitions_answers.specs.Told.{TellsAsked, told_environment}

module _ (db : Database) (blocks : Blocks) (b : Block) (outer : List Combination) (c : Combination) (told : ℕ
    → Result (List Value) Raise) where
  abbrev pub tried_in : Environment
  tried_in = told_environment (at (context_alone db outer) c) told

  pub record SaysWhatIsTold : Type 0 where
    pub quiet : (all : Bool) → flat_map (λ d. raises_of (truth tried_in d)) (late_conjuncts b) ≡ []
        → all ≡ list_all (λ d. is_surely_true (truth tried_in d)) (late_conjuncts b)
        → Says (context_among db blocks outer) b c (Ok all)
    pub raises : (e : Raise) → Contains (flat_map (λ d. raises_of (truth tried_in d)) (late_conjuncts b)) e
        → Says (context_among db blocks outer) b c (Err e)

abbrev pub LateConjunctsSayWhatIsTold : Type 0
LateConjunctsSayWhatIsTold =
    (db : Database) (blocks : Blocks) (b : Block) (outer : List Combination) (c : Combination) (told : ℕ
    → Result (List Value) Raise)
    → AllByRecursion (λ n. TellsAsked (seen_subqueries b) (meanings db 0 blocks n (c ∷ outer)) (told n) n) (subqueries b)
    → SaysWhatIsTold db blocks b outer c told
