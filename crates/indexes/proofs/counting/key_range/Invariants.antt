use Rattle.std.proofs.Common.{◌≡◌, take}
use Rattle.std.specs.Prelude.{filter_map, option_map}
use Rattle.definitions.specs.Statistics.{range_of, units_of}
use Rattle.indexes.specs.Meaning.{key_range_of}
use Rattle.indexes.proofs.counting.key_range.Given as goal

-- the range of the numbers so far
abbrev pub invariant-loop-row : goal.invariant-loop-row
invariant-loop-row l = option_map key_range_of l.range ≡ range_of (filter_map units_of (take l.row l.column.values))
