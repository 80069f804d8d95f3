-- The rows on which a condition is true, by words.
use Rattle.std.specs.Prelude.{ℕ, ◌+◌, ◌<◌, ◌≡◌, Bool, true, false, List, map, bit_and, bit_or}
use Rattle.std.specs.List.{range_with_len}
use Rattle.definitions.specs.Arithmetic.{Meaning, Is, Raises}
use Rattle.definitions.specs.Scanning.{word_of}
use Rattle.definitions.specs.Truth.{Truth, Unknown, all_true, any_true, known}
use Rattle.definitions.specs.Value.{Value, Text, is_null}
use Rattle.definitions.specs.Queries.Combinations.{is_surely_true}
use Rattle.sqlvalue.specs.LikePatterns.{pattern_fits}
use Rattle.expr.specs.declared.row_truths.ValueTest.{ValueTest}
use Rattle.expr.specs.declared.row_truths.ValueTest.TheVariants as t

-- nothing is raised
abbrev pub IsTold : Meaning Truth → Type 0
IsTold (Is t) = Unit {0}
IsTold (Raises r rs) = ⊥

-- of so many rows from one on, those on which something is true; on none of them it raises
abbrev pub AreTrueRows : (ℕ → Meaning Truth) → (first count word : ℕ) → Type 0
AreTrueRows on first count word =
    (word ≡ word_of (map (λ row. is_surely_true (on row)) (range_with_len first count)))
    × ((place : ℕ) → place < count → IsTold (on (first + place)))

-- whether all are true, or else any
abbrev pub of_parts : (all : Bool) → List Truth → Truth
of_parts true = all_true
of_parts false = any_true

-- the rows that two words have in common, or else those of either
abbrev pub common_or_either : (all : Bool) → ℕ → ℕ → ℕ
common_or_either true = bit_and
common_or_either false = bit_or

-- the truth of a test of a value (ISO/IEC 9075:1992, 8.5 and 8.6)
abbrev pub truth_by : ValueTest → Value → Truth
truth_by t.IsNull v = known (is_null v)
truth_by (t.Like pattern) (Text codes) = known (pattern_fits pattern codes)
truth_by (t.Like pattern) _ = Unknown
