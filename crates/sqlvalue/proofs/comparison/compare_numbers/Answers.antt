use Rattle.std.proofs.Common.{◌∙◌}
use Rattle.sqlvalue.proofs.NumberKeys.{of_one_scale}
use Rattle.sqlvalue.proofs.comparison.compare_numbers.Goals as goal

pub returns-then-a-b : goal.returns-then-a-b
returns-then-a-b c = c.cmp.ensures ∙ of_one_scale c.args.a.units c.args.b.units c.args.a.scale c.args.b.scale c.if-a-b.true
