use Rattle.definitions_answers.proofs.Left.{repeats_in_any_order, repeats_keep_order, repeats_one_by_one, taken_in_any_order}
use Rattle.definitions_answers.proofs.repeats_are_left_out.Goals as goal

pub returns-clause-rows : goal.returns-clause-rows
returns-clause-rows c shapes rows others h p = repeats_in_any_order shapes rows others h p

pub returns-clause-values : goal.returns-clause-values
returns-clause-values c distinct shape vs ws h p = taken_in_any_order distinct shape vs ws h p

pub returns-clause-one : goal.returns-clause-one
returns-clause-one c rows row = repeats_one_by_one rows row

pub returns-clause-order : goal.returns-clause-order
returns-clause-order c R rows h = repeats_keep_order R rows h
