use Rattle.sqlvalue.proofs.Comparing.{by_whole_parts}
use Rattle.sqlvalue.proofs.comparison.compare_sizes.Goals as goal

pub returns : goal.returns
returns c =
    let whole = by_whole_parts c.size-a_units.result c.size-b_units.result c.power_of_ten-a_one.result c.power_of_ten-b_one.result c.power_of_ten-a_one.ensures.positive c.power_of_ten-b_one.ensures.positive in
    rw (c.then.ensures, c.cmp-whole.ensures, c.cmp.ensures, ← whole, c.size-a_units.ensures.value, c.size-b_units.ensures.value, c.power_of_ten-a_one.ensures.exact, c.power_of_ten-b_one.ensures.exact)
