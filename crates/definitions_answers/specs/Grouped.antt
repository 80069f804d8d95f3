-- Where result columns and HAVING of a grouped block look at columns of GROUP BY and at set functions alone, they mean
-- the same on each combination of a group.
use Rattle.std.specs.Prelude.{◌≡◌, true, List}
use Rattle.std.specs.List.{AllByRecursion}
use Rattle.definitions.specs.Value.{Value, SqlType}
use Rattle.definitions.specs.Queries.BoundBlock.{Block}
use Rattle.definitions.specs.Queries.Evaluation.{Combination}
use Rattle.definitions.specs.Queries.Combinations.{Context}
use Rattle.definitions.specs.Binding.Formed.{HasColumn}
use Rattle.definitions.specs.Binding.Answerable.{LooksAtGroups}
use Rattle.definitions_execution.specs.TypedCombinations.{IsTypedCombination}
use Rattle.definitions_answers.specs.Groups.{in_one_group}
use Rattle.definitions_answers.specs.GroupRows.{row_of_values}

abbrev pub GroupsHaveOneRow : Type 0
GroupsHaveOneRow = (context : Context) (b : Block) (c d : Combination) (values : List Value)
    → AllByRecursion (λ column. (type : SqlType) × HasColumn context.database b column type) b.groups → LooksAtGroups b
    → IsTypedCombination context.database b c → IsTypedCombination context.database b d
    → in_one_group b.groups c d ≡ true → row_of_values context b c values ≡ row_of_values context b d values
