use Rattle.definitions_answers.proofs.TypedKept.{kept_are_typed}
use Rattle.definitions_answers.proofs.Regular.{formed_are_regular}
use Rattle.definitions_answers.proofs.ValueShapes.{function_values_have_their_types, arguments_have_shapes, plain_rows_have_shapes}
use Rattle.definitions_answers.proofs.formed_blocks_have_shapes.Goals as goal

pub returns-clause-arguments : goal.returns-clause-arguments
returns-clause-arguments c context blocks around n b place formed right = arguments_have_shapes context blocks around n b place formed right

pub returns-clause-rows : goal.returns-clause-rows
returns-clause-rows c context blocks around n b place formed alone = plain_rows_have_shapes context blocks around n b place formed alone

pub returns-clause-regular : goal.returns-clause-regular
returns-clause-regular c context blocks around n b place formed answerable grouped = formed_are_regular context blocks around n b place formed answerable grouped

pub returns-clause-kept : goal.returns-clause-kept
returns-clause-kept c context b valid = kept_are_typed context b valid

pub returns-clause-functions : goal.returns-clause-functions
returns-clause-functions c context blocks around n b f type group place formed right typed e = function_values_have_their_types context blocks around n b f type group place formed right typed e
