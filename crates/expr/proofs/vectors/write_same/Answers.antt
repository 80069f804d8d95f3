use Rattle.std.proofs.Common.{◌∙◌, ap, None}
use Rattle.std.proofs.lemmas.List.{get_or-replicate}
use Rattle.expr.specs.Vectors.{of_units}
use Rattle.expr.proofs.vectors.write_same.Goals as goal

pub returns : goal.returns
returns c = λ place less.
    ap (of_units c.args.scale) (get_or-replicate 64 place c.in_ok-same.same None less) ∙ c.in_ok-same.ensures
