use Rattle.std.proofs.Common.{rules}
use Rattle.std.specs.Int.{w64}
use Rattle.std.specs.Prelude.{FitsSigned}
use Rattle.std.proofs.lemmas.Int.{to_z-of_z}
use Rattle.definitions.specs.Value.{Number, scale_of}
use Rattle.sqlvalue.specs.Meaning.{type_of}
use Rattle.loading.proofs.Stored.{stored_number, unfit_number}
use Rattle.loading.proofs.field.number.stored_units.Goals as goal

pub returns-in-Some-clause-ok : goal.returns-in-Some-clause-ok
returns-in-Some-clause-ok c =
    let fits : FitsSigned w64 c.in-Some.units = search rules in
    rw to_z-of_z (stored_number _ _ _ (Number c.in-Some.units (scale_of (type_of c.args.sql_type))) c.requires.numbers c.in_ok-written.ensures.ok (c.in-Some.ensures).some)

pub returns-in-None-clause-err : goal.returns-in-None-clause-err
returns-in-None-clause-err c = rw c.unfit_number.ensures (unfit_number _ _ _ c.requires.numbers c.in_ok-written.ensures.ok (c.in-None.ensures).none)
