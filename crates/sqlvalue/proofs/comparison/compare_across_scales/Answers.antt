use Rattle.std.proofs.Common.{sym}
use Rattle.definitions.proofs.Ranking.{power_is_positive}
use Rattle.sqlvalue.proofs.Comparing.{by_signs}
use Rattle.sqlvalue.proofs.comparison.compare_across_scales.Goals as goal

pub returns-in-true-false : goal.returns-in-true-false
returns-in-true-false c =
    sym (by_signs c.args.a.units c.args.b.units _ _ (power_is_positive c.args.b.scale) (sym (c.in-true-false.ensures)) (sym (c.in-true-false.ensures'))).0

pub returns-in-false-true : goal.returns-in-false-true
returns-in-false-true c =
    sym (by_signs c.args.b.units c.args.a.units _ _ (power_is_positive c.args.a.scale) (sym (c.in-false-true.ensures')) (sym (c.in-false-true.ensures))).1
