use Rattle.std.proofs.Common.{◌∙◌, sym}
use Rattle.loading.proofs.TextFields.{stored_text, unfit_text, unwritten_text, kept_utf8}
use Rattle.loading.proofs.field.text.stored_text.Goals as goal

pub returns-then-not-is_text-clause-err : goal.returns-then-not-is_text-clause-err
returns-then-not-is_text-clause-err c = unwritten_text c.args.length c.args.field.now (sym c.is_text.ensures ∙ c.if-not-is_text.true)

pub returns-then-not-is_blank-clause-err : goal.returns-then-not-is_blank-clause-err
returns-then-not-is_blank-clause-err c =
    unfit_text c.args.length c.min.result c.args.field.now c.split_at.result.1.now c.min.ensures (sym c.is_text.ensures ∙ c.if-not-is_text.false) c.split_at.ensures.back (sym c.is_blank.ensures ∙ c.if-not-is_blank.true)

pub returns-in-Ok-clause-ok : goal.returns-in-Ok-clause-ok
returns-in-Ok-clause-ok c =
    stored_text c.args.length c.min.result c.args.field.now c.in-Ok.text.now c.split_at.result.1.now c.min.ensures (sym c.is_text.ensures ∙ c.if-not-is_text.false)
    ((c.in-Ok.ensures).cases.0 ∙ c.split_at.ensures.front) c.split_at.ensures.back (sym c.is_blank.ensures ∙ c.if-not-is_blank.false)

pub returns-in-Err-clause-err : goal.returns-in-Err-clause-err
returns-in-Err-clause-err c =
    absurd ((c.in-Err.ensures).cases.0 (kept_utf8 c.min.result c.args.field.now c.split_at.result.0.now (sym c.is_text.ensures ∙ c.if-not-is_text.false) c.split_at.ensures.front))
