-- Grouped blocks that are formed and answerable are regular.
use Rattle.definitions_answers.specs.Formed.{FormedAreRegular}
use Rattle.definitions_answers.proofs.OneRow.{groups_have_one_row}
use Rattle.definitions_answers.proofs.ValueShapes.{arguments_have_shapes}
use Rattle.definitions_answers.proofs.GroupedShapes.{grouped_rows_have_shapes}

pub formed_are_regular : FormedAreRegular
formed_are_regular context blocks around n b place formed answerable grouped =
    let (shapes, rows) = grouped_rows_have_shapes context blocks around n b place formed answerable in
    record {
      functions = arguments_have_shapes context blocks around n b place formed answerable.functions;
      grouped = λ c d values typed_c typed_d one. groups_have_one_row context b c d values formed.groups (answerable.groups grouped) typed_c typed_d one;
      shapes = shapes;
      rows = λ distinct group typed. rows group typed;
    }
