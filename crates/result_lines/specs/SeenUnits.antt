-- Units that came before.
use Rattle.std.specs.Prelude.{ℤ, Bool, List}
use Rattle.std.specs.Ordering.{int_eq}
use Rattle.std.specs.List.{list_any}

-- a unit is one of them
abbrev pub has_unit : List ℤ → ℤ → Bool
has_unit units unit = list_any (int_eq unit) units
