-- What ranges of keys stand for, and the keys in them.
use Rattle.std.specs.Prelude.{ℤ, ◌≤ℤ◌, ◌<◌, ◌^◌, nat_abs}
use Rattle.definitions.specs.Limits.{greatest_precision}
use Rattle.definitions.specs.Table.{KeyRange}
use Rattle.estimate.specs.declared.key_ranges.Extent.{Extent}

abbrev pub range_of : Extent → KeyRange
range_of e = record { low = e.low; high = e.high }

abbrev pub IsWithin : KeyRange → ℤ → Type 0
IsWithin range key = (range.low ≤ℤ key) × (key ≤ℤ range.high)

-- the bounds have as many digits as a column's numbers may have
abbrev pub IsBounded : KeyRange → Type 0
IsBounded range = (nat_abs range.low < 10 ^ greatest_precision) × (nat_abs range.high < 10 ^ greatest_precision)
