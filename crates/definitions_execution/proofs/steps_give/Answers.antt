use Rattle.definitions_execution.proofs.Giving.{access_law, loop_law, merge_law, sort_law}
use Rattle.definitions_execution.proofs.steps_give.Goals as goal

pub returns-clause-access : goal.returns-clause-access
returns-clause-access c q d v a is = access_law q d v a is

pub returns-clause-looped : goal.returns-clause-looped
returns-clause-looped c q d v p a is l w = loop_law q d v p a is l w

pub returns-clause-merged : goal.returns-clause-merged
returns-clause-merged c q d v p g i is l rows w r = merge_law q d v p g i is l rows w r

pub returns-clause-sorted : goal.returns-clause-sorted
returns-clause-sorted c q d v p o is l arranged w same up = sort_law q d v p o is l arranged w same up
