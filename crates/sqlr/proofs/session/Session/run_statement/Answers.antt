use Rattle.sqlr.specs.declared.ended.RunFault.TheVariants as r
use Rattle.sqlr.proofs.Running.{one_ran, broke_undone, broke_done}
use Rattle.sqlr.proofs.session.Session.run_statement.Goals as goal

pub returns-in-Ok-put-clause-runs : goal.returns-in-Ok-put-clause-runs
returns-in-Ok-put-clause-runs g c = one_ran _ _ _ _ _ _ c.in-Ok.printed c.in-Ok.ensures.takes (rw (c.deref.ensures.value, c.tell_cause.ensures.taken) at c.in-Ok-put.ensures.ok)

pub returns-in-Err-Memory-clause-breaks : goal.returns-in-Err-Memory-clause-breaks
returns-in-Err-Memory-clause-breaks g c = broke_undone _ _ _ _ _ _ (r.Memory c.place_of-offset.result) (rw c.in-Err-Memory.field-0-is at c.in-Err-Memory.ensures.breaks)

pub returns-in-Err-Library-clause-breaks : goal.returns-in-Err-Library-clause-breaks
returns-in-Err-Library-clause-breaks g c = broke_undone _ _ _ _ _ _ (r.Library c.place_of-offset.result) (rw c.in-Err-Library.field-0-is at c.in-Err-Library.ensures.breaks)

pub returns-clause-breaks : goal.returns-clause-breaks
returns-clause-breaks g c = broke_done _ _ _ _ _ _ _ c.in-Ok.printed c.in-Ok.ensures.takes (rw (c.deref.ensures.value, c.tell_cause.ensures.taken) at c.in-Err.ensures.fault)
