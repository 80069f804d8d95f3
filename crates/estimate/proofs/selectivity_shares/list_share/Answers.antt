use Rattle.std.proofs.Common.{◌∙◌, sym, ap, ◌*◌, min}
use Rattle.std.specs.Prelude.{option_map}
use Rattle.definitions.specs.Estimates.Fractions.{one_half}
use Rattle.definitions.specs.Estimates.Sides.{Side}
use Rattle.definitions.specs.Estimates.Selectivity.{list_share, one_key}
use Rattle.query_tree.specs.Bound.{column_of}
use Rattle.estimate.proofs.Known.{at_most_half}
use Rattle.estimate.proofs.Saying.{plain}
use Rattle.estimate.proofs.selectivity_shares.list_share.Goals as goal

pub returns-in-Some-clause-exact : goal.returns-in-Some-clause-exact
returns-in-Some-clause-exact c = λ db block are value is.
    let key = c.one_key.ensures.exact ∙ ap one_key (c.keys_of.ensures.exact db block are) in
    let members = c.args.members in
    let share = at_most_half members c.one_key.result c.saturating_mul-share.result c.min.result c.saturating_mul-share.ensures c.min.ensures in
    let side = plain value (column_of c.in-Some.column) (sym is ∙ ap (option_map column_of) c.in-Some.is) in
    share ∙ ap (λ k. min one_half (members * k)) key ∙ sym (ap (λ (s : Side). list_share db block s members) side)
