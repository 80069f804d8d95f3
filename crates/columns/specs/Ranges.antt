-- Ranges of units.
use Rattle.std.specs.Prelude.{ℤ, Bool, ◌&&◌, not, int_le, if◌then◌else◌}
use Rattle.columns.specs.declared.range.UnitRange.{UnitRange}

-- from the low unit to the high one, or all but those
abbrev pub is_in : UnitRange → ℤ → Bool
is_in range u =
    if range.outside then not (int_le range.low u && int_le u range.high) else (int_le range.low u
    && int_le u range.high)
