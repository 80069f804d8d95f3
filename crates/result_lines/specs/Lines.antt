-- Lines, each once.
use Rattle.std.specs.Prelude.{ℕ, ℤ, ◌≡◌, Bool, true, not, nat_eq, Option, Some, None, List, [], ◌∷◌, flat_map, map, IfSome}
use Rattle.std.specs.Cmp.Lexicographic.{pointwise}
use Rattle.std.specs.List.{list_any}
use Rattle.definitions.specs.Table.{Row}
use Rattle.definitions.specs.Printing.{row_line}
use Rattle.definitions.specs.Value.{Number}
use Rattle.definitions_answers.specs.Lines.{with_line}
use Rattle.result_lines.specs.declared.lines.DistinctLines.{DistinctLines}

abbrev pub lines_of : DistinctLines → List (List ℕ)
lines_of s = map (λ line. line.items) s.set.keys

abbrev pub joined_lines : List (List ℕ) → List ℕ
joined_lines = flat_map (λ line. line)

-- a line is one of them
abbrev pub has_line : List (List ℕ) → List ℕ → Bool
has_line lines line = list_any (pointwise nat_eq line) lines

-- the row of a number alone, as it is printed
abbrev pub number_line : ℕ → ℤ → List ℕ
number_line scale unit = row_line (Number unit scale ∷ [])

-- one row more is noted, and whether it did not come before; where no lines are kept each row counts as new
abbrev pub IsNotedLine : Option DistinctLines → Option DistinctLines → Bool → Row → Type 0
IsNotedLine None seen new row = new ≡ true
IsNotedLine (Some lines) seen new row =
    IfSome seen (λ after. lines_of after ≡ with_line (lines_of lines) (row_line row))
    × (new ≡ not (list_any (pointwise nat_eq (row_line row)) (lines_of lines)))
