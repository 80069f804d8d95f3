use Rattle.std.proofs.Common.{◌≡◌, drop}
use Rattle.sqlvalue.specs.LikePatterns.{begins_with}
use Rattle.sqlvalue.proofs.text_search.begins_with.Given as goal

-- what is left has to begin so too
abbrev pub invariant-loop-place : goal.invariant-loop-place
invariant-loop-place l = begins_with l.needle l.text ≡ begins_with (drop l.place l.needle) (drop l.place l.text)
