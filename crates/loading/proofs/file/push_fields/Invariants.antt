use Rattle.csv.specs.Records.{fields_of}
use Rattle.loading.proofs.Pushing.{HavePushed}
use Rattle.loading.proofs.file.push_fields.Given as goal

abbrev pub invariant-loop-i : goal.invariant-loop-i
invariant-loop-i l = HavePushed l.fn.columns l.columns (fields_of l.fields) l.i
