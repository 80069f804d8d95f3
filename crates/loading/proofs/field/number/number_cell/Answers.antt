use Rattle.std.proofs.Common.{◌∙◌, sym, rules}
use Rattle.std.specs.Int.{w64}
use Rattle.std.specs.Prelude.{FitsSigned}
use Rattle.std.proofs.lemmas.Int.{to_z-of_z}
use Rattle.loading.proofs.Stored.{null_loads, stored_loads, refused_loads}
use Rattle.loading.proofs.field.number.number_cell.Goals as goal

pub returns-then-is_null-clause-ok : goal.returns-then-is_null-clause-ok
returns-then-is_null-clause-ok c = null_loads _ c.args.field.now (sym c.is_null.ensures ∙ c.if-is_null.true)

pub returns-in-Ok-clause-ok : goal.returns-in-Ok-clause-ok
returns-in-Ok-clause-ok c =
    let fits : FitsSigned w64 c.in-Ok.units = search rules in
    rw to_z-of_z (stored_loads _ c.args.field.now _ (sym c.is_null.ensures ∙ c.if-is_null.false) (c.in-Ok.ensures).ok)

pub returns-in-Err-clause-err : goal.returns-in-Err-clause-err
returns-in-Err-clause-err c = refused_loads _ c.args.field.now _ (sym c.is_null.ensures ∙ c.if-is_null.false) (c.in-Err.ensures).err
