-- Rows by their numbers.
use Rattle.std.specs.Prelude.{ℕ, suc, Bool, List, [], ◌∷◌, if◌then◌else◌}

-- the numbers of the rows whose flag is set, where the first flag is that of this row
abbrev pub rows_set : List Bool → ℕ → List ℕ
rows_set [] row = []
rows_set (flag ∷ flags) row = if flag then row ∷ rows_set flags (suc row) else rows_set flags (suc row)
