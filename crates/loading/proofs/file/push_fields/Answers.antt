use Rattle.std.proofs.Common.{◌≡◌, ◌∙◌, refl, ap, get_or, set, arith}
use Rattle.std.proofs.lemmas.List.{set-get_or}
use Rattle.std.proofs.lemmas.Result.{err_from_is_err_and}
use Rattle.csv.specs.Records.{fields_of}
use Rattle.loading.proofs.Pushing.{field_is_there, field_is, field_refused, pushed_more, pushed_all, pushed_extends}
use Rattle.loading.proofs.file.push_fields.Goals as goal

pub unwrap-field-requires : goal.unwrap-field-requires
unwrap-field-requires c = field_is_there c.get.result (fields_of c.args.fields.now) c.loop-i.i c.get.ensures.value (omega (arith, c.loop-i-test.true, c.requires))

pub returns-in_err-push_field-clause-refused : goal.returns-in_err-push_field-clause-refused
returns-in_err-push_field-clause-refused c =
    let p = err_from_is_err_and c.from_residual.result c.from_residual.ensures.1 in
    rw p.1
    (field_refused c.args.columns.now c.loop-i.columns (fields_of c.args.fields.now) c.loop-i.i (get_or c.loop-i.columns c.loop-i.i c.index-columns-i.result) c.index-columns-i.result _ p.0 c.loop-i.invariant c.loop-i-test.true
    (omega (arith, c.loop-i-test.true, c.requires)) refl
    (field_is c.get.result (fields_of c.args.fields.now) c.loop-i.i c.unwrap-field.result c.get.ensures.value (omega (arith, c.loop-i-test.true, c.requires)) c.unwrap-field.ensures)
    (rw p.2 (c.in_err-push_field.ensures).refused))

pub returns-in_err-push_field-clause-err : goal.returns-in_err-push_field-clause-err
returns-in_err-push_field-clause-err c =
    let p = err_from_is_err_and c.from_residual.result c.from_residual.ensures.1 in
    let same : set c.loop-i.columns c.loop-i.i c.push_field.new.column ≡ c.loop-i.columns = ap (set c.loop-i.columns c.loop-i.i) (c.in_err-push_field.ensures).err ∙ set-get_or c.loop-i.columns c.loop-i.i c.index-columns-i.result in
    rw (p.1, same) (pushed_extends c.args.columns.now c.loop-i.columns (fields_of c.args.fields.now) c.loop-i.i c.loop-i.invariant)

pub loop-i-preserved : goal.loop-i-preserved
loop-i-preserved c =
    let (v, loads, new) = (c.in_ok-push_field.ensures).ok in
    rw new
    (pushed_more c.args.columns.now c.loop-i.columns (fields_of c.args.fields.now) c.loop-i.i (get_or c.loop-i.columns c.loop-i.i c.index-columns-i.result) c.index-columns-i.result _ v c.loop-i.invariant c.loop-i-test.true
    (omega (arith, c.loop-i-test.true, c.requires)) refl
    (field_is c.get.result (fields_of c.args.fields.now) c.loop-i.i c.unwrap-field.result c.get.ensures.value (omega (arith, c.loop-i-test.true, c.requires)) c.unwrap-field.ensures)
    loads)

pub returns-clause-ok : goal.returns-clause-ok
returns-clause-ok c = pushed_all c.args.columns.now c.loop-i.columns (fields_of c.args.fields.now) c.loop-i.i c.loop-i.invariant c.loop-i-test.false c.requires
