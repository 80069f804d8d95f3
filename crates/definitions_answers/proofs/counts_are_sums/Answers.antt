use Rattle.definitions_answers.proofs.Counting as q
use Rattle.definitions_answers.proofs.counts_are_sums.Goals as goal

pub returns : goal.returns
returns c so_far works added p = q.count_is_sum so_far works added p
