use Rattle.std.proofs.Common.{◌≡◌, ◌-◌, drop, length}
use Rattle.sqlvalue.specs.LikePatterns.{contains}
use Rattle.sqlvalue.proofs.text_search.contains.Given as goal

-- it stands in what is left of the text, or nowhere
abbrev pub invariant-loop-place : goal.invariant-loop-place
invariant-loop-place l = contains l.needle l.text ≡ contains l.needle (drop l.place l.text)

abbrev pub decreases-loop-place : goal.decreases-loop-place
decreases-loop-place l = length l.text - l.place
