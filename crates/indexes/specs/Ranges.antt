-- Ranges of numbers, one number after another.
use Rattle.std.specs.Prelude.{ℤ, Option, Some, None}
use Rattle.std.specs.Int.{int_min, int_max}
use Rattle.definitions.specs.Table.{KeyRange}

abbrev pub widened_by : Option KeyRange → ℤ → KeyRange
widened_by None units = record { low = units; high = units }
widened_by (Some range) units = record { low = int_min range.low units; high = int_max range.high units }
