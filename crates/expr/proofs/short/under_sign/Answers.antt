use Rattle.std.proofs.Common.{rules, to_z-of_z}
use Rattle.std.specs.Prelude.{FitsSigned, neg_ℤ}
use Rattle.std.specs.Int.{w64}
use Rattle.expr.proofs.short.under_sign.Goals as goal

pub returns-in-Number : goal.returns-in-Number
returns-in-Number c =
    let units : FitsSigned w64 c.in-Number.units = search rules in
    let whole = simp to_z-of_z at c.checked_neg.ensures in
    rw (c.in-Number.is, c.if-minus.true) (c.number.ensures.exact (neg_ℤ c.in-Number.units) whole)
