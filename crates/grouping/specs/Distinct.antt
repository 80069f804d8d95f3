-- Values that came before, each once: numbers by their units, texts by the lines that they print.
use Rattle.std.specs.Prelude.{ℤ, ◌≡◌, Bool, not, nat_eq, List, [], ◌∷◌, ◌++◌, if◌then◌else◌, ℕ}
use Rattle.std.specs.Cmp.Lexicographic.{pointwise}
use Rattle.std.specs.Ordering.{int_eq}
use Rattle.std.specs.List.{list_any}
use Rattle.definitions.specs.Value.{Value, Null, Number, Text}
use Rattle.definitions.specs.Printing.{row_line}
use Rattle.definitions_answers.specs.Lines.{with_line}
use Rattle.result_lines.specs.Lines.{lines_of}
use Rattle.grouping.specs.declared.distinct_values.DistinctValues.{DistinctValues}

-- a value as it is printed in a row of its own
abbrev pub own_line : Value → List ℕ
own_line v = row_line (v ∷ [])

-- the units of the numbers among values
abbrev pub units_in : List Value → List ℤ
units_in [] = []
units_in (Number units scale ∷ vs) = units ∷ units_in vs
units_in (Text codes ∷ vs) = units_in vs
units_in (Null ∷ vs) = units_in vs

-- the lines of the texts
abbrev pub lines_in : List Value → List (List ℕ)
lines_in [] = []
lines_in (Number units scale ∷ vs) = lines_in vs
lines_in (Text codes ∷ vs) = own_line (Text codes) ∷ lines_in vs
lines_in (Null ∷ vs) = lines_in vs

-- it has these values
pub record HasValues (vs : List Value) (d : DistinctValues) : Type 0 where
  pub units : d.units.keys ≡ units_in vs
  pub texts : lines_of d.texts ≡ lines_in vs

abbrev pub IsOfNothing : DistinctValues → Type 0
IsOfNothing = HasValues []

-- units with one more, which stay where it is one of them
abbrev pub with_unit : List ℤ → ℤ → List ℤ
with_unit us unit = if list_any (int_eq unit) us then us else us ++ unit ∷ []

-- a value is noted, and whether it did not come before
abbrev pub IsNoted : DistinctValues → DistinctValues → Bool → Value → Type 0
IsNoted before after new (Number unit scale) =
    (after.units.keys ≡ with_unit before.units.keys unit)
    × (lines_of after.texts ≡ lines_of before.texts)
    × (new ≡ not (list_any (int_eq unit) before.units.keys))
IsNoted before after new v =
    (after.units.keys ≡ before.units.keys)
    × (lines_of after.texts ≡ with_line (lines_of before.texts) (own_line v))
    × (new ≡ not (list_any (pointwise nat_eq (own_line v)) (lines_of before.texts)))
