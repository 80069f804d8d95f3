use Rattle.std.proofs.Common.{◌≡◌, map, take, ℤ}
use Rattle.std.specs.Prelude.{◌-ℤ◌}
use Rattle.definitions.specs.Statement.{Equals}
use Rattle.definitions.specs.Truth.{compared_with_any, known}
use Rattle.definitions.specs.Value.{Number}
use Rattle.sqlvalue.specs.Owned.{owned_value}
use Rattle.told_tests.specs.UnitSets.{flag_at}
use Rattle.told_tests.proofs.unit_set.UnitSet.of_values.Given as goal

-- the flags of the values before one are set, and no others
abbrev pub invariant-values : goal.invariant-values
invariant-values l = (unit : ℤ) → compared_with_any Equals (Number unit l.scale) (take l.value-index (map owned_value l.values)) ≡ known (flag_at l.flags.items (unit -ℤ l.least))
