use Rattle.std.proofs.Common.{◌∙◌, sym, ap}
use Rattle.std.specs.Prelude.{option_map}
use Rattle.definitions.specs.Estimates.KeyRanges.{drawn, part_above}
use Rattle.definitions.specs.Estimates.Fractions.{one_third}
use Rattle.query_tree.specs.Bound.{column_of}
use Rattle.estimate.specs.Ranges.{range_of}
use Rattle.estimate.proofs.Known.{part_known}
use Rattle.estimate.proofs.selectivity_shares.share_above.Goals as goal

pub returns-in-Some-clause-exact : goal.returns-in-Some-clause-exact
returns-in-Some-clause-exact c = λ db block are.
    let a = c.args in
    let known = sym (ap (option_map range_of) c.in-Some.is) ∙ c.range_over.ensures db block are in
    c.part_above.ensures.exact ∙ sym (part_known db block (column_of a.column) (λ range. part_above range (drawn range a.scale a.number.units a.number.scale)) one_third (range_of c.in-Some.range) known)
