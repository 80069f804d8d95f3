use Rattle.std.proofs.Common.{◌∙◌, sym}
use Rattle.sqlvalue.proofs.Calculating.{bits_keep, quotient_is}
use Rattle.sqlvalue.proofs.arithmetic.div.Goals as goal

pub returns-in-Some : goal.returns-in-Some
returns-in-Some c = quotient_is c.args.a.units c.args.b.units c.in-Some.numerator c.args.a.scale c.args.b.scale c.max-scale.result c.max-scale.ensures (sym (rw (bits_keep c.args.a.units c.args.a.bounded) at c.scale_up.ensures.exact) ∙ c.in-Some.is) (c.in-Some.ensures).below c.args.b.bounded c.if-b-eq0.false
