use Rattle.definitions_answers.proofs.Cutting.{cuts_are_groups}
use Rattle.definitions_answers.proofs.cuts_are_groups.Goals as goal

pub returns : goal.returns
returns c columns cs closed first others h cut = cuts_are_groups columns cs closed first others h cut
