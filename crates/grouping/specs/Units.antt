-- Units of numbers of one scale.
use Rattle.std.specs.Prelude.{ℕ, ℤ, pos, ◌+ℤ◌, int_lt, List, [], ◌∷◌, map, if◌then◌else◌}
use Rattle.definitions.specs.Value.{Value, Number}
use Rattle.definitions.specs.Statement as s
use Rattle.grouping.specs.Accumulating.{replaces}

abbrev pub number_at : ℕ → ℤ → Value
number_at scale unit = Number unit scale

abbrev pub numbers_at : ℕ → List ℤ → List Value
numbers_at scale units = map (number_at scale) units

abbrev pub sum_of : List ℤ → ℤ
sum_of [] = pos 0
sum_of (unit ∷ units) = unit +ℤ sum_of units

-- what units add to the sum of a set function
abbrev pub added_sum : s.SetFunction → List ℤ → ℤ
added_sum s.Sum units = sum_of units
added_sum s.Avg units = sum_of units
added_sum _ units = pos 0

-- the sum's scale after them
abbrev pub scale_of_sum : s.SetFunction → (own scale : ℕ) → ℕ
scale_of_sum s.Sum own scale = scale
scale_of_sum s.Avg own scale = scale
scale_of_sum _ own scale = own

-- the least of a unit and others, and the greatest
abbrev pub least_from : ℤ → List ℤ → ℤ
least_from least [] = least
least_from least (unit ∷ units) = least_from (if int_lt unit least then unit else least) units

abbrev pub greatest_from : ℤ → List ℤ → ℤ
greatest_from greatest [] = greatest
greatest_from greatest (unit ∷ units) = greatest_from (if int_lt greatest unit then unit else greatest) units

-- what is chosen once values have come, one after another
abbrev pub chosen_after : s.SetFunction → Value → List Value → Value
chosen_after f chosen [] = chosen
chosen_after f chosen (v ∷ vs) = chosen_after f (if replaces f chosen v then v else chosen) vs

-- the one that a set function chooses of a unit and others
abbrev pub best_from : s.SetFunction → ℤ → List ℤ → ℤ
best_from s.Min first units = least_from first units
best_from s.Max first units = greatest_from first units
best_from _ first units = first
