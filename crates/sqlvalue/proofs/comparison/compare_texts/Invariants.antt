use Rattle.std.proofs.Common.{◌≡◌, drop}
use Rattle.definitions.specs.Value.{text_cmp}
use Rattle.sqlvalue.proofs.comparison.compare_texts.Given as goal

-- what is left compares as the whole does
abbrev pub invariant-loop-i : goal.invariant-loop-i
invariant-loop-i l = text_cmp (drop l.i l.a) (drop l.i l.b) ≡ text_cmp l.a l.b
