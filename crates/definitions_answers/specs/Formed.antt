-- What is known of the values of a formed block that is answerable, on whatever combination.
use Rattle.std.specs.Prelude.{ℕ, ◌≡◌, true, List, Some}
use Rattle.std.specs.List.{AllByRecursion}
use Rattle.definitions.specs.Invariant.{IsDatabase}
use Rattle.definitions.specs.Binding.Formed.{set_function_type, IsFormedBlock, IsFormedFunction}
use Rattle.definitions.specs.Binding.Answerable.{IsRightFunction, ItemsAskNoBlock, IsAnswerable}
use Rattle.definitions.specs.Queries.BoundBlock.{Aggregate, Block, Blocks}
use Rattle.definitions.specs.ValueType.{ValueType}
use Rattle.definitions.specs.Queries.Evaluation.{Combination}
use Rattle.definitions.specs.Queries.Answer.{is_grouped}
use Rattle.definitions.specs.Queries.Grouping.{function_value}
use Rattle.definitions.specs.Queries.Laws.{MeansOne}
use Rattle.definitions.specs.Queries.Combinations.{Context, kept}
use Rattle.definitions_execution.specs.TypedCombinations.{AreTypedAround, IsTypedCombination}
use Rattle.definitions_answers.specs.GroupRows.{HasArgumentShape, IsRegular}
use Rattle.definitions_answers.specs.PlainRows.{HavePlainShapes}
use Rattle.definitions_answers.specs.Shapes.{Shape}

abbrev pub IsInPlace : Context → Blocks → Blocks → Block → Type 0
IsInPlace context blocks around b = IsDatabase context.database × AreTypedAround context.database around context.outer

-- arguments have shapes
abbrev pub ArgumentsHaveShapes : Type 0
ArgumentsHaveShapes =
    (context : Context) (blocks around : Blocks) (n : ℕ) (b : Block) → IsInPlace context blocks around b
    → IsFormedBlock context.database blocks around n b
    → AllByRecursion IsRightFunction b.functions → AllByRecursion (HasArgumentShape context b) b.functions

-- and so have the rows of a block that is not grouped
abbrev pub PlainRowsHaveShapes : Type 0
PlainRowsHaveShapes =
    (context : Context) (blocks around : Blocks) (n : ℕ) (b : Block) → IsInPlace context blocks around b
    → IsFormedBlock context.database blocks around n b → ItemsAskNoBlock b
    → (shapes : List Shape) × HavePlainShapes context b shapes

-- a grouped block is regular
abbrev pub FormedAreRegular : Type 0
FormedAreRegular =
    (context : Context) (blocks around : Blocks) (n : ℕ) (b : Block) → IsInPlace context blocks around b
    → IsFormedBlock context.database blocks around n b
    → IsAnswerable b → is_grouped b ≡ true → IsRegular context b

-- what WHERE keeps is typed
abbrev pub KeptAreTyped : Type 0
KeptAreTyped =
    (context : Context) (b : Block) → IsDatabase context.database
    → AllByRecursion (IsTypedCombination context.database b) (kept context b)

-- the value of a set function over a group is of the type that is told of it
abbrev pub FunctionValuesHaveTheirTypes : Type 0
FunctionValuesHaveTheirTypes =
    (context : Context) (blocks around : Blocks) (n : ℕ) (b : Block) (f : Aggregate) (type : ValueType)
    (group : List Combination) → IsInPlace context blocks around b
    → IsFormedFunction context.database blocks around n b f → IsRightFunction f
    → AllByRecursion (IsTypedCombination context.database b) group → set_function_type f ≡ Some type
    → MeansOne type (function_value context group f)
