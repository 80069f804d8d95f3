-- Lines of rows: rows of the same columns are the same where their lines are, so lines may be kept in place of rows
-- (own).
use Rattle.std.specs.Prelude.{ℕ, ◌≡◌, ⊤, List, [], ◌∷◌, ◌++◌, map, nat_abs, nat_eq, ◌<◌, ◌^◌, if◌then◌else◌}
use Rattle.std.specs.Cmp.Lexicographic.{pointwise}
use Rattle.std.specs.List.{AllByRecursion, list_any}
use Rattle.definitions.specs.Limits.{most_digits}
use Rattle.definitions.specs.Value.{Value, Number}
use Rattle.definitions.specs.Table.{Row}
use Rattle.definitions.specs.Printing.{row_line}
use Rattle.definitions_answers.specs.Repeats.{with_row}
use Rattle.definitions_answers.specs.Shapes.{Shape, HasShapes}

-- a number has at most 38 digits
abbrev pub IsInBounds : Value → Type 0
IsInBounds (Number units scale) = nat_abs units < 10 ^ most_digits
IsInBounds _ = ⊤

-- a row of some columns
pub record IsRowOf (shapes : List Shape) (row : Row) : Type 0 where
  pub shaped : HasShapes shapes row
  pub bounded : AllByRecursion IsInBounds row

abbrev pub EqualLinesAreEqualRows : Type 0
EqualLinesAreEqualRows =
    (shapes : List Shape) (r s : Row) → IsRowOf shapes r → IsRowOf shapes s → row_line r ≡ row_line s → r ≡ s

-- one line more: it stays where it is none of those before
abbrev pub with_line : List (List ℕ) → List ℕ → List (List ℕ)
with_line lines line = if list_any (pointwise nat_eq line) lines then lines else lines ++ line ∷ []

-- so the lines of rows without repeats are those that stay of their lines, one by one
abbrev pub LinesOneByOne : Type 0
LinesOneByOne =
    (shapes : List Shape) (rows : List Row) (row : Row) → AllByRecursion (IsRowOf shapes) rows → IsRowOf shapes row
    → with_line (map row_line rows) (row_line row) ≡ map row_line (with_row rows row)
