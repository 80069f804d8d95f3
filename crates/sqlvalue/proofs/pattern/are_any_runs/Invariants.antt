use Rattle.std.proofs.Common.{◌≡◌, [], drop}
use Rattle.definitions.specs.Pattern.{fits}
use Rattle.sqlvalue.proofs.pattern.are_any_runs.Given as goal

abbrev pub invariant-loop-place : goal.invariant-loop-place
invariant-loop-place l = fits (drop l.from l.pattern) [] ≡ fits (drop l.place l.pattern) []
