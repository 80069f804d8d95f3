-- What fields write, and are stored as.
use Rattle.std.specs.Prelude.{ℕ, pos, ◌≡◌, ◌<◌, ◌≤◌, ◌^◌, true, List, Some, length}
use Rattle.std.specs.Str.Parse.{digits_value}
use Rattle.std.specs.declared.cmp.Ordering.TheVariants.{Equal}
use Rattle.definitions.specs.Lexing.{digits_of, is_numeral}
use Rattle.definitions.specs.Limits.{most_digits}
use Rattle.definitions.specs.Refusal.{FieldError, BadText}
use Rattle.definitions.specs.Value.{Value, Number, SqlType, kind_of, HasType, compare}
use Rattle.definitions.specs.Loading.{Writes, WritesNumber, StoresAs, negated, not_stored}
use Rattle.loading.specs.declared.written_number.WrittenNumber.{WrittenNumber}
use Rattle.sqlvalue.specs.declared.field.FieldFault.{FieldFault}
use Rattle.sqlvalue.specs.declared.field.FieldFault.TheVariants as f

abbrev pub number_of : WrittenNumber → Value
number_of w = Number (negated w.negative (pos w.digits)) w.scale

-- a numeral of few digits, which add up to this
pub record IsShortNumeral (numeral : List ℕ) (digits : ℕ) : Type 0 where
  pub numeral_is : is_numeral numeral ≡ true
  pub few : length (digits_of numeral) ≤ 18
  pub value : digits ≡ digits_value 10 (digits_of numeral)
  pub below : digits < 10 ^ 18

-- a field writes this number, of not too many digits
abbrev pub WritesShort : List ℕ → WrittenNumber → Type 0
WritesShort field w = (digits : ℕ) × WritesNumber field (number_of w) digits × (digits ≤ most_digits)
    × (w.digits < 10 ^ most_digits) × (w.scale ≤ most_digits)

-- why a field writes no such number
abbrev pub WritesNone : List ℕ → FieldFault → Type 0
WritesNone field f.NoNumber = (v : Value) (digits : ℕ) → WritesNumber field v digits → ⊥
WritesNone field f.ManyDigits = (v : Value) × (digits : ℕ) × WritesNumber field v digits × (most_digits < digits)
WritesNone field _ = ⊥

-- a value of a type that is equal to a written one
abbrev pub IsEqualOf : SqlType → Value → Value → Type 0
IsEqualOf type v w = HasType type w × (compare w v ≡ Some Equal)

-- the value that a field is stored as in a column of a type, if it is not null
abbrev pub Stores : SqlType → List ℕ → Value → Type 0
Stores type field w = (v : Value) × (digits : ℕ) × Writes (kind_of type) field v digits × StoresAs type v digits w

-- a field writes a value, and none that the type has is equal to it
abbrev pub Unfit : SqlType → List ℕ → Type 0
Unfit type field = (v : Value) × (digits : ℕ) × Writes (kind_of type) field v digits
    × ((w : Value) → StoresAs type v digits w → ⊥)

-- why it is not stored
abbrev pub StoresNone : SqlType → List ℕ → FieldError → Type 0
StoresNone type field BadText = (v : Value) (digits : ℕ) → Writes (kind_of type) field v digits → ⊥
StoresNone type field error = Unfit type field × (error ≡ not_stored (kind_of type))
