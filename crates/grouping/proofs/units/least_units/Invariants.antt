use Rattle.std.proofs.Common.{◌≡◌, drop}
use Rattle.grouping.specs.Units.{least_from}
use Rattle.grouping.proofs.units.least_units.Given as goal

-- those to come make of the least so far the least of all
abbrev pub invariant-units : goal.invariant-units
invariant-units l = least_from l.least (drop l.unit-index l.units) ≡ least_from l.first l.units
