use Rattle.std.proofs.Common.{◌≡◌, ◌++◌, map, take}
use Rattle.result_lines.specs.Lines.{joined_lines}
use Rattle.result_lines.proofs.lines.DistinctLines.write.Given as goal

abbrev pub invariant-places : goal.invariant-places
invariant-places l = l.out.items ≡ l.fn.out.items ++ joined_lines (map (λ line. line.items) (take l.place l.self.set.keys))
