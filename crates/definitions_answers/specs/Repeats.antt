-- Repeats that are left out (ISO/IEC 9075:1992, 7.9, 6.5).
use Rattle.std.specs.Prelude.{◌≡◌, Bool, true, List, [], ◌∷◌, ◌++◌, IsPermutation, if◌then◌else◌}
use Rattle.std.specs.List.{AllByRecursion, list_any}
use Rattle.definitions.specs.Table.{Row}
use Rattle.definitions.specs.Value.{Value}
use Rattle.definitions.specs.Lists.{without_repeats}
use Rattle.definitions.specs.Queries.Grouping.{same_values, taken}
use Rattle.definitions_execution.specs.Lists.{Rises}
use Rattle.definitions_answers.specs.Shapes.{Shape, HasShape, HasShapes}

-- of rows of the same columns the order says nothing about which are left
abbrev pub RepeatsInAnyOrder : Type 0
RepeatsInAnyOrder =
    (shapes : List Shape) (rows others : List Row) → AllByRecursion (HasShapes shapes) rows → IsPermutation rows others
    → IsPermutation (without_repeats same_values rows) (without_repeats same_values others)

-- of values too
abbrev pub TakenInAnyOrder : Type 0
TakenInAnyOrder =
    (distinct : Bool) (shape : Shape) (vs ws : List Value) → AllByRecursion (HasShape shape) vs → IsPermutation vs ws
    → IsPermutation (taken distinct vs) (taken distinct ws)

-- one row more: it stays where it is the same as none before
abbrev pub with_row : List Row → Row → List Row
with_row rows row = if list_any (λ before. same_values before row) rows then rows else rows ++ row ∷ []

abbrev pub RepeatsOneByOne : Type 0
RepeatsOneByOne =
    (rows : List Row) (row : Row) → without_repeats same_values (rows
    ++ row ∷ []) ≡ with_row (without_repeats same_values rows) row

-- rows that are left stay in order
abbrev pub RepeatsKeepOrder : Type 0
RepeatsKeepOrder =
    (R : Row → Row → Bool) (rows : List Row) → Rises (λ a b. R a b ≡ true) rows
    → Rises (λ a b. R a b ≡ true) (without_repeats same_values rows)
