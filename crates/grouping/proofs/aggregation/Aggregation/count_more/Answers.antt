use Rattle.std.proofs.lemmas.Result.{on_ok_weaker}
use Rattle.grouping.proofs.Counted.{more_counted}
use Rattle.grouping.proofs.aggregation.Aggregation.count_more.Goals as goal

pub returns-clause-taken : goal.returns-clause-taken
returns-clause-taken c =
    on_ok_weaker c.count_more.result
    (λ taken shape vs more kind each long bounded before. more_counted shape vs more c.args.self.now c.count_more.new.self each bounded (taken shape vs more kind long) before) c.count_more.ensures.taken
