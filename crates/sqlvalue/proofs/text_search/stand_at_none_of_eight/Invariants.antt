use Rattle.std.proofs.Common.{ℕ, ◌≡◌, ◌<◌, false}
use Rattle.std.specs.Bool.{OnTrue}
use Rattle.sqlvalue.specs.LikePatterns.{stand_at}
use Rattle.sqlvalue.proofs.text_search.stand_at_none_of_eight.Given as goal

-- they stand at no place so far
abbrev pub invariant-loop-place : goal.invariant-loop-place
invariant-loop-place l = OnTrue l.none ((k : ℕ) → k < l.place → stand_at l.first l.second l.text k ≡ false)
