use Rattle.std.proofs.Common.{◌≡◌, ◌++◌, ◌∷◌, [], replicate}
use Rattle.result_lines.proofs.printed_field.write_fraction.Given as goal

-- the point and the zeros so far
abbrev pub invariant-zeros : goal.invariant-zeros
invariant-zeros l = l.out.items ≡ (l.fn.out.items ++ 46 ∷ []) ++ replicate l._zero 48
