use Rattle.std.proofs.Common.{sym}
use Rattle.sqlr.proofs.Taking.{rows_taken, record_told, repeated_told, limit_told}
use Rattle.sqlr.proofs.session.Session.load_bytes.Goals as goal

pub returns-in-Ok-clause-takes : goal.returns-in-Ok-clause-takes
returns-in-Ok-clause-takes g c =
    rw (sym c.self.view_is) (rows_taken c.self.inside.database _ _ _ _ c.loaded.result (rw (c.as_str.ensures.value, c.deref.ensures.value) at c.in-Ok.ensures.ok) (rw c.loaded.ensures.text (rw c.in_ok-text.ensures.items at c.write_loaded.ensures)) c.loaded.ensures.ended)

pub returns-in-Err-Record-clause-takes : goal.returns-in-Err-Record-clause-takes
returns-in-Err-Record-clause-takes g c =
    rw (sym c.self.view_is) (record_told c.self.inside.database _ _ _ c.in-Err-Record.record _ _ (rw (c.in-Err-Record.field-0-is, c.as_str.ensures.value, c.deref.ensures.value) at c.in-Err-Record.ensures.refused) c.refusal.ensures c.in-Err-Record.ensures.err c.refused_record.ensures.text c.refused_record.ensures.ended)

pub returns-in-Err-Repeated-clause-takes : goal.returns-in-Err-Repeated-clause-takes
returns-in-Err-Repeated-clause-takes g c =
    rw (sym c.self.view_is) (repeated_told c.self.inside.database _ _ _ c.in-Err-Repeated.record _ (rw (c.in-Err-Repeated.field-0-is, c.as_str.ensures.value, c.deref.ensures.value) at c.in-Err-Repeated.ensures.refused) c.in-Err-Repeated.ensures.err c.refused_record-in-Err-Repeated.ensures.text c.refused_record-in-Err-Repeated.ensures.ended)

pub returns-in-Err-ManyRows-clause-takes : goal.returns-in-Err-ManyRows-clause-takes
returns-in-Err-ManyRows-clause-takes g c =
    rw (sym c.self.view_is) (limit_told c.self.inside.database _ _ _ _ (rw (c.in-Err-ManyRows.field-0-is, c.as_str.ensures.value, c.deref.ensures.value) at c.in-Err-ManyRows.ensures.refused) c.in-Err-ManyRows.ensures.err c.refusal_line.ensures.text c.refusal_line.ensures.ended)
