-- The values of late conjuncts can be evaluated by what is told of their subqueries.
use Rattle.std.proofs.Common.{◌≡◌, ℕ, List, [], ◌∷◌, Some}
use Rattle.std.specs.Prelude.{flat_map}
use Rattle.std.specs.List.{AllByRecursion}
use Rattle.definitions.specs.Arithmetic.{Meaning}
use Rattle.definitions.specs.ValueType.{ValueType}
use Rattle.definitions.specs.Table.{Database, Row}
use Rattle.definitions.specs.Invariant.{IsDatabase}
use Rattle.definitions.specs.Queries.BoundBlock.{ValueExpr, Column, Parameter, Numeral, String, Signed, Chain, AggregateValue, Subquery, Operands, NoOperand, Operand, Condition, Block, Blocks}
use Rattle.definitions.specs.Queries.BoundTypes.{value_type}
use Rattle.definitions.specs.Queries.Conjuncts.{blocks_in, blocks_of, operand_blocks, tested_blocks, values_of}
use Rattle.definitions.specs.Queries.Evaluation.{Combination, Environment}
use Rattle.definitions.specs.Queries.Laws.{FitsTypes, AllFitTypes, MeansRows}
use Rattle.definitions.specs.Binding.Formed as formed
use Rattle.definitions.specs.Binding.Formed.{IsFormedValue, AreFormedOperands, IsTypedValue}
use Rattle.expr.specs.Answers.{IsTyped}
use Rattle.definitions_execution.specs.TypedCombinations.{AreTypedAround, IsTypedCombination}
use Rattle.definitions_execution.proofs.FormedNames.{OfValues}
use Rattle.definitions_answers.proofs.Elements.{all_first, all_flat}
use Rattle.filters.specs.Evaluable.{CanEvaluate}
use Rattle.block_answers.proofs.Formed.{own_type, some_type}

module _ (db : Database) (b : Block) (outer : List Combination) (valid : IsDatabase db) (blocks around : Blocks) (n : ℕ) (typed : AreTypedAround db around outer) (c : Combination) (own : IsTypedCombination db b c) (inner : ℕ → Meaning (List Row)) where
  abbrev env : Environment
  env = record { combination = c; outer = outer; functions = []; inner = inner }

  abbrev Formed : ValueExpr → Type 0
  Formed = IsFormedValue db blocks around n b

  abbrev TypedIn : ValueExpr → Type 0
  TypedIn = IsTypedValue db blocks around n b

  -- what is told of a block has the type of its column
  abbrev pub IsTypedBlock : ℕ → Type 0
  IsTypedBlock k = (type : ValueType) → formed.column_type blocks k ≡ Some type → MeansRows type (inner k)

  mutual
    fitting : (e : ValueExpr) → Formed e → AllByRecursion IsTypedBlock (blocks_in e) → FitsTypes env e
    fitting (Column column type) f k = (own_type db b column type valid f, own column type f)
    fitting (Parameter between column type) f k = (own_type db f.0 column type valid f.2, typed between f.0 f.1 column type f.2)
    fitting (Numeral units digits scale) f k = f.0
    fitting (String codes) f k = tt
    fitting (Signed minus operand) f k = fitting operand f k
    fitting (Chain first others) f k = let (here, there) = all_first IsTypedBlock (blocks_in first) (operand_blocks others) k in (fitting first f.0 here, all_fitting others f.1 there)
    fitting (AggregateValue number type) f k = tt
    fitting (Subquery number type) f k = k.0 type f.1

    all_fitting : (others : Operands) → AreFormedOperands db blocks around n b others → AllByRecursion IsTypedBlock (operand_blocks others) → AllFitTypes env others
    all_fitting NoOperand f k = tt
    all_fitting (Operand operator operand others) f k = let (here, there) = all_first IsTypedBlock (blocks_in operand) (operand_blocks others) k in (fitting operand f.0 here, all_fitting others f.1 there)

  each_fits : (es : List ValueExpr) → AllByRecursion TypedIn es → AllByRecursion (λ e. AllByRecursion IsTypedBlock (blocks_in e)) es → AllByRecursion (FitsTypes env) es
  each_fits [] h k = tt
  each_fits (e ∷ es) h k = (fitting e h.0.0 k.0, each_fits es h.1 k.1)

  each_typed : (es : List ValueExpr) → AllByRecursion TypedIn es → AllByRecursion IsTyped es
  each_typed [] h = tt
  each_typed (e ∷ es) h = (some_type (value_type e) h.0.1, each_typed es h.1)

  pub told_can : (conditions : List Condition) → AllByRecursion (OfValues TypedIn) conditions → AllByRecursion IsTypedBlock (flat_map blocks_of conditions) → AllByRecursion (CanEvaluate env) conditions
  told_can [] h k = tt
  told_can (d ∷ ds) h k =
      let (here, there) = all_first IsTypedBlock (blocks_of d) (flat_map blocks_of ds) k in
      let (tested, values) = all_first IsTypedBlock (tested_blocks d) (flat_map blocks_in (values_of d)) here in
      (record { fits = each_fits (values_of d) h.0 (all_flat IsTypedBlock blocks_in (values_of d) values); typed = each_typed (values_of d) h.0 }, told_can ds h.1 there)
