use Rattle.definitions_answers.proofs.OneRow.{groups_have_one_row}
use Rattle.definitions_answers.proofs.groups_have_one_row.Goals as goal

pub returns : goal.returns
returns c context block d e values has looks typed_d typed_e one = groups_have_one_row context block d e values has looks typed_d typed_e one
