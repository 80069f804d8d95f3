use Rattle.definitions.proofs.TextExamples.{values_compare, texts_read, tokens_derive, fields_and_rows, cells_compare}
use Rattle.definitions.proofs.examples.values_and_texts.Goals as goal

pub returns-clause-values : goal.returns-clause-values
returns-clause-values c = values_compare

pub returns-clause-texts : goal.returns-clause-texts
returns-clause-texts c = texts_read

pub returns-clause-tokens : goal.returns-clause-tokens
returns-clause-tokens c = tokens_derive

pub returns-clause-rows : goal.returns-clause-rows
returns-clause-rows c = fields_and_rows

pub returns-clause-cells : goal.returns-clause-cells
returns-clause-cells c = cells_compare
