use Rattle.std.proofs.Common.{◌≡◌, drop}
use Rattle.sqlvalue.specs.LikePatterns.{is_plain}
use Rattle.sqlvalue.proofs.like_pattern.stands_for_itself.Given as goal

abbrev pub invariant-loop-place : goal.invariant-loop-place
invariant-loop-place l = is_plain l.pattern ≡ is_plain (drop l.place l.pattern)
