use Rattle.loading.proofs.Pushing.{cut_long, cut_same}
use Rattle.loading.proofs.file.push_record.Goals as goal

pub cut_columns-requires : goal.cut_columns-requires
cut_columns-requires c = cut_long c.args.len c.args.columns.now c.push_fields.new.columns c.requires (c.in-Err.ensures).err

pub returns-in-Err-clause-err : goal.returns-in-Err-clause-err
returns-in-Err-clause-err c = cut_same c.args.len c.args.columns.now c.push_fields.new.columns c.cut_columns.new.columns c.requires (c.in-Err.ensures).err c.cut_columns.ensures
