use Rattle.std.proofs.Common.{Err}
use Rattle.definitions.specs.Loading.{ColumnLoads}
use Rattle.loading.specs.Meaning.{column_refusal}
use Rattle.loading.proofs.Pushing.{refused_is}
use Rattle.loading.proofs.file.push_field.Goals as goal

pub returns-in-Err-Refused-clause-refused : goal.returns-in-Err-Refused-clause-refused
returns-in-Err-Refused-clause-refused c =
    refused_is c.in-Err-Refused.field-0 c.in-Err-Refused.fault (λ f. ColumnLoads c.args.column.now.header c.args.field.now (Err (column_refusal f))) c.in-Err-Refused.field-0-is c.in-Err-Refused.ensures.refused
