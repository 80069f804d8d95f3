use Rattle.std.proofs.Common.{◌≡◌, ◌≤◌, ◌-◌, ◌++◌, take, drop}
use Rattle.columns.proofs.null_bits.NullBits.add_from.Given as goal

-- the rows so far
abbrev pub invariant-loop-row : goal.invariant-loop-row
invariant-loop-row l = record {
  from : l.fn.from ≤ l.row;
  to : l.row ≤ l.to;
  own : l.self ≡ l.fn.self ++ take (l.row - l.fn.from) (drop l.fn.from l.other);
}

abbrev pub decreases-loop-row : goal.decreases-loop-row
decreases-loop-row l = l.to - l.row
