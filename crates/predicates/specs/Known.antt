-- The number that a side of a condition is, where it is known.
use Rattle.std.specs.Prelude.{Option, Some, None}
use Rattle.definitions.specs.Value.{Value, Number}
use Rattle.definitions.specs.Estimates.Sides.{Side, KnownNumber}

abbrev pub number_in : Side → Option Value
number_in (KnownNumber units scale) = Some (Number units scale)
number_in _ = None
