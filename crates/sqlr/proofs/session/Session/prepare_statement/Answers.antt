use Rattle.std.proofs.Common.{◌∙◌, sym}
use Rattle.sqlr.proofs.Preparing.{asked_passed, none_asked, kept_if_refused}
use Rattle.sqlr.proofs.session.Session.prepare_statement.Goals as goal

pub returns-then-is_some-clause-prepared : goal.returns-then-is_some-clause-prepared
returns-then-is_some-clause-prepared g c = asked_passed _ _ _ c.query_of.result c.query_of.ensures (sym c.is_some.ensures ∙ c.if-is_some.true)

pub returns-in-Ok-clause-prepared : goal.returns-in-Ok-clause-prepared
returns-in-Ok-clause-prepared g c = kept_if_refused _ _ _ _ c.in-Ok.printed _ (none_asked _ c.query_of.result c.query_of.ensures (sym c.is_some.ensures ∙ c.if-is_some.false)) c.in-Ok.ensures.takes c.if_refused.ensures

pub returns-in-Err-clause-breaks : goal.returns-in-Err-clause-breaks
returns-in-Err-clause-breaks g c = (none_asked _ c.query_of.result c.query_of.ensures (sym c.is_some.ensures ∙ c.if-is_some.false), c.in-Err.ensures.breaks)
