use Rattle.std.proofs.Common.{◌≡◌, ◌++◌, ◌∷◌, length}
use Rattle.definitions.specs.Printing.{doubled}
use Rattle.sqlvalue.proofs.values.write_text.Given as goal

-- what is written, and what is left, is the whole
abbrev pub invariant-runs : goal.invariant-runs
invariant-runs l = l.out.items ++ doubled l.rest ≡ l.fn.out.items ++ 39 ∷ doubled l.fn.text

abbrev pub decreases-runs : goal.decreases-runs
decreases-runs l = length l.rest
