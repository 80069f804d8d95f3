use Rattle.std.proofs.Common.{◌≡◌, ◌++◌, drop}
use Rattle.interesting_orders.specs.Places.{given}
use Rattle.interesting_orders.proofs.places.given_equations.Given as goal

abbrev pub invariant-equations : goal.invariant-equations
invariant-equations l = l.found.items ++ given (drop l.equation-index l.equations) ≡ given l.equations
