use Rattle.definitions_answers.proofs.Grouped.{groups_are_one}
use Rattle.definitions_answers.proofs.groups_are_one.Goals as goal

pub returns : goal.returns
returns c column columns cs groups are = groups_are_one column columns cs groups are
