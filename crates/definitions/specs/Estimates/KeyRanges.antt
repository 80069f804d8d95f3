-- Parts of the range of an index's keys (Selinger et al. 1979, table 1: linear interpolation of the value within the
-- range of key values).
use Rattle.std.specs.Prelude.{ℕ, ℤ, pos, ◌^◌, ◌*ℤ◌, ◌-ℤ◌, nat_abs, int_lt, int_div, Option, Some, None, if◌then◌else◌}
use Rattle.std.specs.Ordering.{is_lt, is_gt}
use Rattle.definitions.specs.Value.{number_cmp}
use Rattle.definitions.specs.Table.{KeyRange}
use Rattle.definitions.specs.Estimates.Fractions.{fraction}

-- a range that has an extent: of one key alone no part can be taken
abbrev pub extent : KeyRange → Option KeyRange
extent range = if int_lt range.low range.high then Some range else None

-- a number drawn into a range: the bound that it lies beyond, or itself, cut towards zero to the scale of the keys
abbrev pub drawn : KeyRange → ℕ → ℤ → ℕ → ℤ
drawn range key_scale units scale =
    if is_lt (number_cmp units scale range.low key_scale) then range.low
    else if is_gt (number_cmp units scale range.high key_scale) then range.high
    else int_div (units *ℤ pos (10 ^ key_scale)) (pos (10 ^ scale))

-- how far it is from a number up to another; nothing where that is less
abbrev pub distance : ℤ → ℤ → ℕ
distance from to = if int_lt from to then nat_abs (to -ℤ from) else 0

-- the part of a range above a number, below it, and between two
abbrev pub part_above : KeyRange → ℤ → ℕ
part_above range v = fraction (distance v range.high) (distance range.low range.high)

abbrev pub part_below : KeyRange → ℤ → ℕ
part_below range v = fraction (distance range.low v) (distance range.low range.high)

abbrev pub part_between : KeyRange → ℤ → ℤ → ℕ
part_between range v w = fraction (distance v w) (distance range.low range.high)
