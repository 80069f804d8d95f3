use Rattle.std.proofs.Common.{◌≡◌, ◌∙◌, rules}
use Rattle.std.specs.Ordering.{int_cmp}
use Rattle.sqlvalue.proofs.NumberKeys.{of_one_scale}
use Rattle.tuple_sort.proofs.ranking.rank_of_values.Goals as goal

pub returns-in-Num-Num : goal.returns-in-Num-Num
returns-in-Num-Num c =
    let n = c.in-Num-Num in
    let same : n.x.scale ≡ n.y.scale = search rules in
    let told : c.cmp.result ≡ int_cmp n.x.units n.y.units = search rules in
    rw (n.is-0, n.is-1) (told ∙ of_one_scale n.x.units n.y.units n.x.scale n.y.scale same)
