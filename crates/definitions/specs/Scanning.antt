-- What a scan of a column answers: the rows in which a comparison is true, and those in which it is unknown, as words
-- of bits.
use Rattle.std.specs.Prelude.{ℕ, ◌+◌, ◌*◌, Bool, false, List, [], ◌∷◌, if◌then◌else◌, map, take, drop, unwrap_or}
use Rattle.std.specs.Prelude.{is_none}
use Rattle.definitions.specs.Value.{Value}
use Rattle.definitions.specs.Statement.{ComparisonOperator}
use Rattle.definitions.specs.Truth.{truth_of}

-- the number whose bit i is set exactly where the i-th flag is, and no bit behind the flags (own)
abbrev pub word_of : List Bool → ℕ
word_of [] = 0
word_of (flag ∷ flags) = (if flag then 1 else 0) + 2 * word_of flags

-- so many cells, from a place on
abbrev pub part_of : (first rows : ℕ) → List Value → List Value
part_of first rows cells = take rows (drop first cells)

-- bit i is set exactly where the comparison of the i-th cell with a value is true (ISO/IEC 9075:1992, 8.2)
abbrev pub true_word : ComparisonOperator → Value → List Value → ℕ
true_word op value cells = word_of (map (λ cell. unwrap_or (truth_of op cell value) false) cells)

-- bit i is set exactly where that comparison is unknown (8.2)
abbrev pub unknown_word : ComparisonOperator → Value → List Value → ℕ
unknown_word op value cells = word_of (map (λ cell. is_none (truth_of op cell value)) cells)
