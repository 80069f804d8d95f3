use Rattle.std.proofs.Common.{◌≡◌, drop}
use Rattle.grouping.specs.Units.{greatest_from}
use Rattle.grouping.proofs.units.greatest_units.Given as goal

-- those to come make of the greatest so far the greatest of all
abbrev pub invariant-units : goal.invariant-units
invariant-units l = greatest_from l.greatest (drop l.unit-index l.units) ≡ greatest_from l.first l.units
