-- Composites of which a test of what was told tells, and whether they pass.
use Rattle.std.proofs.Common.{◌≡◌, ◌∙◌, refl, sym, ap, ap₂, subst, ℕ, suc, List, [], ◌∷◌, ◌++◌, Bool, true, cond, map, take, get_or, arith, inl, inr}
use Rattle.std.specs.Prelude.{◌&&◌, All, IfSome, None, OnSome, Option, Some, filter, flat_map}
use Rattle.definitions.specs.Queries.BoundBlock.{Condition}
use Rattle.definitions.specs.Queries.Combinations.{at, is_surely_true, raises_of}
use Rattle.definitions.specs.Queries.Evaluation.{cell, truth, Combination, Environment}
use Rattle.definitions_answers.specs.Told.{told_environment}
use Rattle.definitions_execution.specs.OfBlock.{combination_of}
use Rattle.definitions.specs.Arithmetic.{Is}
use Rattle.definitions.specs.Truth.{compared}
use Rattle.definitions.specs.Value.{Value}
use Rattle.definitions_execution.specs.Stored.{Composite}
use Rattle.sqlvalue.specs.Meaning.{number_of, op_of}
use Rattle.sqlvalue.specs.declared.number.Num.{Num}
use Rattle.sqlvalue.specs.declared.op.ComparisonOperator.{ComparisonOperator}
use Rattle.query_tree.specs.Bound.{column_of}
use Rattle.filters.specs.Sources.{block_in, context_in, BlockSource}
use Rattle.subqueries.specs.Keeping.{told_by}
use Rattle.subqueries.specs.declared.kept_results.KeptResults.{KeptResults}
use Rattle.told_tests.specs.LateTests.{are_true_at, raised_at}
use Rattle.told_tests.specs.RunScans.{is_met_at}
use Rattle.told_tests.specs.ToldTests.{comparison_of, passes_at, passes_value, IsTested, IsTestOf, IsTestOfAll, TellsOf}
use Rattle.told_tests.specs.declared.told_test.ToldTest.{ToldTest}
use Rattle.told_tests.proofs.ToldNumbers.{only_one, tested_quiet, tested_truth}

-- what is told of a value is whether it passes
pub told_value : (test : ToldTest) (value : Value) (passed : Bool) → TellsOf test value passed → passed ≡ passes_value test value
told_value test value passed (inl (unit, there, is)) = is ∙ sym (ap (passes_value test) there)
told_value test value passed (inr (there, is)) = is ∙ sym (ap (passes_value test) there)

-- on all composites of which it tells, the test is as good as the conjuncts
module _ (source : BlockSource) (outer : List Combination) (results : List KeptResults) (test : ToldTest) (conditions : List Condition) (own : IsTestOfAll (told_by results) test conditions) where
  pub all_truth : (items : List Composite) → All (IsTested source test) items → filter (passes_at source test) items ≡ filter (are_true_at source outer results conditions) items
  all_truth [] h = refl
  all_truth (c ∷ cs) h =
      ap₂ (λ passes rest. cond passes (c ∷ rest) rest) (tested_truth source outer results c test (passes_at source test c) (h 0 [] (omega arith)) conditions own)
      (all_truth cs (λ k d lt. h (suc k) d (omega (arith, lt))))

  pub all_quiet : (items : List Composite) → All (IsTested source test) items → flat_map (raised_at source outer results conditions) items ≡ []
  all_quiet [] h = refl
  all_quiet (c ∷ cs) h =
      ap₂ (λ here others. here ++ others) (tested_quiet source outer results c test (passes_at source test c) (h 0 [] (omega arith)) conditions own)
      (all_quiet cs (λ k d lt. h (suc k) d (omega (arith, lt))))

-- and so is a comparison that the test is, on all composites
module _ (source : BlockSource) (outer : List Combination) (results : List KeptResults) (test : ToldTest) (op : ComparisonOperator) (number : Num) (asked : comparison_of test.asked ≡ Some (op, number)) where
  abbrev here : Composite → Environment
  here composite = at (context_in source outer) (combination_of source.database (block_in source) composite)

  abbrev Means : Condition → (ComparisonOperator × Num) → Type 0
  Means condition own = (env : Environment) → truth (told_environment env (told_by results)) condition ≡ Is (compared (op_of own.0) (cell env.combination (column_of test.column)) (number_of own.1))

  means : (condition : Condition) → IsTestOf (told_by results) test condition → (composite : Composite)
      → truth (told_environment (here composite) (told_by results)) condition ≡ Is (compared (op_of op) (cell (combination_of source.database (block_in source) composite) (column_of test.column)) (number_of number))
  means condition own composite = subst (λ is. IfSome is (Means condition)) asked own.compares (here composite)

  pub met_truth : (conditions : List Condition) → IsTestOfAll (told_by results) test conditions → (composite : Composite) → is_met_at source test.column op number composite ≡ are_true_at source outer results conditions composite
  met_truth [] own composite = absurd own
  met_truth (condition ∷ []) own composite = only_one (is_met_at source test.column op number composite) ∙ ap (λ t. is_surely_true t && true) (sym (means condition own composite))
  met_truth (condition ∷ other ∷ others) own composite = absurd own

  met_quiet : (conditions : List Condition) → IsTestOfAll (told_by results) test conditions → (composite : Composite) → raised_at source outer results conditions composite ≡ []
  met_quiet [] own composite = absurd own
  met_quiet (condition ∷ []) own composite = ap (λ t. raises_of t ++ []) (means condition own composite)
  met_quiet (condition ∷ other ∷ others) own composite = absurd own

  pub all_met : (conditions : List Condition) → IsTestOfAll (told_by results) test conditions → (items : List Composite) → filter (is_met_at source test.column op number) items ≡ filter (are_true_at source outer results conditions) items
  all_met conditions own [] = refl
  all_met conditions own (c ∷ cs) = ap₂ (λ passes rest. cond passes (c ∷ rest) rest) (met_truth conditions own c) (all_met conditions own cs)

  pub none_raised : (conditions : List Condition) → IsTestOfAll (told_by results) test conditions → (items : List Composite) → flat_map (raised_at source outer results conditions) items ≡ []
  none_raised conditions own [] = refl
  none_raised conditions own (c ∷ cs) = ap₂ (λ here others. here ++ others) (met_quiet conditions own c) (none_raised conditions own cs)

-- what was found by units is so by the conjuncts
module _ (source : BlockSource) (test : ToldTest) (items : List Composite) where
  abbrev at_places : List ℕ → List Composite
  at_places places = map (λ place. get_or items place []) places

  pub units_passing : (found : Option ℕ) (places : List ℕ) → IfSome found (λ count. at_places (take count places) ≡ filter (passes_at source test) items) → OnSome found (All (IsTested source test) items)
      → IfSome found (λ count. (outer : List Combination) (results : List KeptResults) (late : List Condition) → IsTestOfAll (told_by results) test late → at_places (take count places) ≡ filter (are_true_at source outer results late) items)
  units_passing None places passing tested = tt
  units_passing (Some count) places passing tested = λ outer results late own. passing ∙ all_truth source outer results test late own items tested

  pub units_quiet : (found : Option ℕ) → OnSome found (All (IsTested source test) items)
      → OnSome found ((outer : List Combination) (results : List KeptResults) (late : List Condition) → IsTestOfAll (told_by results) test late → flat_map (raised_at source outer results late) items ≡ [])
  units_quiet None tested = tt
  units_quiet (Some count) tested = λ outer results late own. all_quiet source outer results test late own items tested
