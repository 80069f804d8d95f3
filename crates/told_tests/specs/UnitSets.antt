-- Units of a list, as flags.
use Rattle.std.specs.Prelude.{ℕ, ℤ, ◌≡◌, ◌-ℤ◌, pos, negsuc, Bool, false, List, get_or}
use Rattle.definitions.specs.Statement.{Equals}
use Rattle.definitions.specs.Truth.{compared_with_any, known}
use Rattle.definitions.specs.Value.{Value, Number}
use Rattle.told_tests.specs.declared.unit_set.UnitSet.{UnitSet}

-- the flag at a place, which is none before the first
abbrev pub flag_at : List Bool → ℤ → Bool
flag_at flags (pos place) = get_or flags place false
flag_at flags (negsuc n) = false

abbrev pub has : UnitSet → ℤ → Bool
has set unit = flag_at set.flags.items (unit -ℤ set.least)

-- it has a unit exactly where the number of so many is equal to one of some values (ISO/IEC 9075:1992, 8.4)
abbrev pub HasUnitsOf : (scale : ℕ) → List Value → UnitSet → Type 0
HasUnitsOf scale values set =
    (unit : ℤ) → compared_with_any Equals (Number unit scale) values ≡ known (has set unit)

-- the flag of a number of a scale has this place behind that of the least unit
abbrev pub IsPlaceOf : (scale : ℕ) → (least : ℤ) → Value → (place : ℕ) → Type 0
IsPlaceOf scale least value place = (unit : ℤ) × (value ≡ Number unit scale) × (unit -ℤ least ≡ pos place)
