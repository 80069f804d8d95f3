use Rattle.std.proofs.Common.{◌≡◌, ◌≤◌, ◌*◌, ◌^◌, ◌+ℤ◌, nat_abs, drop}
use Rattle.grouping.specs.Units.{sum_of}
use Rattle.grouping.proofs.units.sum_units.Given as goal

-- the sum so far and those to come
abbrev pub invariant-units : goal.invariant-units
invariant-units l = record { exact : l.sum +ℤ sum_of (drop l.unit-index l.units) ≡ sum_of l.units; small : nat_abs l.sum ≤ l.unit-index * 2 ^ 63 }
