use Rattle.std.proofs.Common.{◌≡◌, ◌++◌, replicate}
use Rattle.sqlvalue.proofs.values.write_zeros.Given as goal

abbrev pub invariant-zeros : goal.invariant-zeros
invariant-zeros l = l.out.items ≡ l.fn.out.items ++ replicate l._zero 48
