use Rattle.definitions_answers.proofs.GroupRows.{groups_tell}
use Rattle.definitions_answers.proofs.groups_tell.Goals as goal

pub returns : goal.returns
returns c context b found keys grouped quiet typed regular are = groups_tell context b found keys grouped quiet typed regular are
